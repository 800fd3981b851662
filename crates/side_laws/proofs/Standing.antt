-- A row of sizes stays with its claim: it is made for one that stands, and goes when it leaves.
use Rattle.std.proofs.Common.{◌≡◌, ◌≢◌, ℕ, zero, suc, List, [], ◌∷◌, Bool, true, false, cond, Option, Some, None, refl, sym, subst, ap, ◌∙◌, arith, true≢false}
use Rattle.std.specs.Ordering.{is_eq}
use Rattle.std.proofs.lemmas.Cmp.{tied_itself}
use Rattle.plain_data.specs.Rows.{put, without}
use Rattle.plain_data.proofs.RowLookups.{find-put, find-put_other, find-without, find-without_other, found_key}
use Rattle.kube_objects.specs.declared.key.Key.{Key}
use Rattle.kube_parts.specs.declared.uid.Uid.{Uid}
use Rattle.kube_objects.specs.declared.objects.Amount.{Amount}
use Rattle.kube_objects.specs.declared.objects.Claim.{Claim as ClaimData}
use Rattle.kube_objects.specs.declared.objects.Volume.{Volume as VolumeData}
use Rattle.kube_objects.specs.declared.objects.Object.{Object}
use Rattle.kube_objects.specs.declared.objects.Object.TheVariants.{Class, Node, Volume, Claim, Pod}
use Rattle.kube_objects.specs.Keys.{key_cmp, key_of, kind_index, meta_of, put_row, row_at, without_row}
use Rattle.kube_objects.proofs.KeyOrder.{equal_keys, key_cmp_total, row_at_key, row_at-put_row, row_at-put_row_other, row_at-without_row_other}
use Rattle.call_types.specs.declared.reply.Change.{Change}
use Rattle.call_types.specs.declared.reply.Change.TheVariants.{Added, Modified, Deleted}
use Rattle.call_types.specs.declared.reply.Reply.{Reply}
use Rattle.call_types.specs.declared.reply.Reply.TheVariants as replies
use Rattle.binder_model.specs.Choice.{claim_in}
use Rattle.binder_model.specs.ObjectKeys.{volume_key}
use Rattle.binder_model.specs.Answers.{Says, Stores, Removes, reply_of, after}
use Rattle.binder_model.specs.World.{World, Effect, OnStore, OnDevices, SetsMoment, effect, reply_to, world, world_after}
use Rattle.model_laws.specs.Histories.{KeepsIdentity}
use Rattle.model_laws.proofs.Changes.{ChangeOf, IsInPlace, outcome_changes}
use Rattle.model_laws.proofs.Effects.{OnEffect, on_effects}
use Rattle.model_laws.proofs.Replies.{writing}
use Rattle.side_calls.specs.declared.asks.SideAsk.{SideAsk}
use Rattle.side_calls.specs.declared.asks.SideAsk.TheVariants.{Create, Grow, Step as StepAsk}
use Rattle.side_calls.specs.declared.sizes.GrowError.{GrowError}
use Rattle.side_calls.specs.declared.sizes.SizeRow.{SizeRow}
use Rattle.side_calls.specs.declared.sizes.SizeStep.{SizeStep}
use Rattle.side_calls.specs.declared.sizes.StepKind.{StepKind}
use Rattle.side_calls.specs.declared.sizes.StepKind.TheVariants as kinds
use Rattle.expand_ops.specs.Growing.{first_row, grow_fault, grown_if, grown_row, grown_rows, row_from, sizes_grown, volume_in}
use Rattle.expand_ops.specs.Sizes.{AreSizes, after_step, changed_at, kept_after, made, next_step, size_at, size_key, without_left}
use Rattle.expand_ops.proofs.Turns.{made_key}
use Rattle.side_model.specs.Answers.{after_ask, side}
use Rattle.side_model.specs.Sides.{Side, growth_of, tally_of}
use Rattle.side_model.specs.Merged.{OfWorld, OfSide, entries}
use Rattle.side_laws.specs.Mirrors.{SizesStand}
use Rattle.side_laws.specs.Mirrors.{SizesAlwaysStand}
use Rattle.side_laws.proofs.Mirrors.{claim_there, none_some, some_is}
use Rattle.side_laws.proofs.Growths.{claim_stands, growth_at, is_equal}

-- a claim of this UID stands under the key
abbrev StandsAs : List Object → Key → Uid → Type 0
StandsAs rows key uid = (c : ClaimData) × ((row_at key rows ≡ Some (Claim c)) × (c.meta.uid ≡ Some uid))

same_keys : (j k : Key) → is_eq (key_cmp j k) ≡ true → j ≡ k
same_keys j k e = equal_keys j k (is_equal (key_cmp j k) e)

differ : (j k : Key) → is_eq (key_cmp j k) ≡ false → j ≢ k
differ j k e same = true≢false (sym (ap is_eq (tied_itself key_cmp_total k)) ∙ subst (λ (z : Key). is_eq (key_cmp z k) ≡ false) same e)

-- ---- a call of the world

module _ (rows : List Object) (sizes : List SizeRow) (stand : SizesStand sizes rows) where
  put_stands : (o : Object) (change : Change) → IsInPlace rows change o → SizesStand sizes (put_row o rows)
  put_stands o change place key x e = by (is_eq (key_cmp (key_of o) key)) refl (stand key x e)
    where
      over : (old : Object) → row_at (key_of o) rows ≡ Some old → KeepsIdentity old o → key_of o ≡ key → StandsAs rows key x.claim → StandsAs (put_row o rows) key x.claim
      over old is keeps at t =
          let c = t.0 in
          let keyed : key_of (Claim c) ≡ key = row_at_key key (Claim c) rows t.1.0 in
          let found = claim_there c o (at ∙ sym keyed) in
          let same : old ≡ Claim c = some_is old (Claim c) (sym is ∙ ap (λ (k : Key). row_at k rows) at ∙ t.1.0) in
          let uid : found.0.meta.uid ≡ c.meta.uid = sym (ap (λ (z : Object). (meta_of z).uid) found.1) ∙ keeps.uid ∙ ap (λ (z : Object). (meta_of z).uid) same in
          (found.0, (sym (ap (λ (k : Key). row_at k (put_row o rows)) at) ∙ row_at-put_row o rows ∙ ap (λ (z : Object). Some z) found.1, uid ∙ t.1.1))

      placed : (change : Change) → IsInPlace rows change o → key_of o ≡ key → StandsAs rows key x.claim → StandsAs (put_row o rows) key x.claim
      placed Added none at t = none_some (Claim t.0) (sym none ∙ ap (λ (k : Key). row_at k rows) at ∙ t.1.0)
      placed Modified is at t = over is.0 is.1.0 is.1.1 at t
      placed Deleted is at t = over is.0 is.1.0 is.1.1 at t

      by : (b : Bool) → is_eq (key_cmp (key_of o) key) ≡ b → StandsAs rows key x.claim → StandsAs (put_row o rows) key x.claim
      by true b t = placed change place (same_keys (key_of o) key b) t
      by false b t = (t.0, (row_at-put_row_other key o rows (differ (key_of o) key b) ∙ t.1.0, t.1.1))

  -- no object of another kind is under the key of a row
  other_stands : (o : Object) → ((c : ClaimData) → key_of (Claim c) ≢ key_of o) → SizesStand sizes (without_row (key_of o) rows)
  other_stands o apart key x e =
      let t = stand key x e in
      let keyed : key_of (Claim t.0) ≡ key = row_at_key key (Claim t.0) rows t.1.0 in
      (t.0, (row_at-without_row_other (key_of o) key rows (λ same. apart t.0 (keyed ∙ sym same)) ∙ t.1.0, t.1.1))

  claim_leaves : (c : ClaimData) → AreSizes sizes → SizesStand (without key_cmp size_key (key_of (Claim c)) sizes) (without_row (key_of (Claim c)) rows)
  claim_leaves c order key x e = by (is_eq (key_cmp (key_of (Claim c)) key)) refl
    where
      by : (b : Bool) → is_eq (key_cmp (key_of (Claim c)) key) ≡ b → StandsAs (without_row (key_of (Claim c)) rows) key x.claim
      by true b =
          let at = ap (λ (k : Key). size_at k (without key_cmp size_key (key_of (Claim c)) sizes)) (same_keys (key_of (Claim c)) key b) in
          none_some x (sym (find-without key_cmp_total size_key (key_of (Claim c)) sizes order) ∙ at ∙ e)
      by false b =
          let t = stand key x (sym (find-without_other key_cmp_total size_key (key_of (Claim c)) key sizes b) ∙ e) in
          (t.0, (row_at-without_row_other (key_of (Claim c)) key rows (differ (key_of (Claim c)) key b) ∙ t.1.0, t.1.1))

  leaves_stands : (o : Object) → AreSizes sizes → SizesStand (without_left o sizes) (without_row (key_of o) rows)
  leaves_stands (Claim c) order = claim_leaves c order
  leaves_stands (Class y) order = other_stands (Class y) (λ c same. let k = ap (λ (z : Key). kind_index z.kind) same in omega (arith, k))
  leaves_stands (Node y) order = other_stands (Node y) (λ c same. let k = ap (λ (z : Key). kind_index z.kind) same in omega (arith, k))
  leaves_stands (Volume y) order = other_stands (Volume y) (λ c same. let k = ap (λ (z : Key). kind_index z.kind) same in omega (arith, k))
  leaves_stands (Pod y) order = other_stands (Pod y) (λ c same. let k = ap (λ (z : Key). kind_index z.kind) same in omega (arith, k))

-- a reply that is no Left drops nothing
abbrev IsNoLeft : Reply → Type 0
IsNoLeft reply = (o : Object) → reply ≡ replies.Left o → ⊥

kept_unless : (reply : Reply) (sizes : List SizeRow) → IsNoLeft reply → kept_after reply sizes ≡ sizes
kept_unless (replies.Left o) sizes none = absurd (none o refl)
kept_unless reply sizes none = refl

apart_effects : (x : Effect) (o : Object) → x ≡ OnStore (Removes o) → (P : Effect → Type 0) → P (OnStore (Removes o)) → P x
apart_effects x o e P p = subst P (sym e) p

-- ---- one step

module _ (w : World) (sizes : List SizeRow) (stand : SizesStand sizes w.store.rows) (order : AreSizes sizes) where
  abbrev After : Effect → Type 0
  After x = SizesStand (kept_after (reply_to x) sizes) (world_after w x).store.rows

  -- an answer without a write
  still : (reply : Reply) → IsNoLeft reply → SizesStand (kept_after reply sizes) w.store.rows
  still reply none = subst (λ (xs : List SizeRow). SizesStand xs w.store.rows) (sym (kept_unless reply sizes none)) stand

  by_effect : (x : Effect) → OnEffect (ChangeOf w.store.rows) x → ((o : Object) → reply_to x ≡ replies.Left o → x ≡ OnStore (Removes o)) → After x
  unfolding reply_to reply_of world_after after
  by_effect (OnStore (Says reply)) place left = still reply (λ o e. says_no (left o e))
    where
      says_no : {o : Object} → OnStore (Says reply) ≡ OnStore (Removes o) → ⊥
      says_no e = true≢false (ap is_said e)
        where
          is_said : Effect → Bool
          is_said (OnStore (Says r)) = true
          is_said x = false
  by_effect (OnStore (Stores change o)) place left = put_stands w.store.rows sizes stand o change place.on
  by_effect (OnStore (Removes o)) place left = leaves_stands w.store.rows sizes stand o order
  by_effect (OnDevices a) place left = still a.reply (λ o e. devices_no (left o e))
    where
      devices_no : {o : Object} → OnDevices a ≡ OnStore (Removes o) → ⊥
      devices_no e = true≢false (ap is_device e)
        where
          is_device : Effect → Bool
          is_device (OnDevices d) = true
          is_device x = false
  by_effect (SetsMoment at) place left = stand

-- ---- an ask

made_claim : (k : StepKind) (n : ℕ) (x : SizeRow) → (made k n x).claim ≡ x.claim
made_claim kinds.Data n x = refl
made_claim kinds.Volume n x = refl
made_claim kinds.Given n x = refl

-- a step leaves whose row it is
abbrev HasOwner : Key → Uid → List SizeRow → Type 0
HasOwner key uid sizes = (x : SizeRow) × ((size_at key sizes ≡ Some x) × (x.claim ≡ uid))

changed_owner : (k : StepKind) (n : ℕ) (key : Key) (y : SizeRow) (xs : List SizeRow) (i : ℕ) → size_at key (changed_at i (made k n) xs) ≡ Some y → HasOwner key y.claim xs
changed_owner k n key y [] i e = none_some y e
changed_owner k n key y (x ∷ xs) zero e = by (is_eq (key_cmp x.key key)) refl (subst (λ (j : Key). cond (is_eq (key_cmp j key)) (Some (made k n x)) (size_at key xs) ≡ Some y) (made_key k n x) e)
  where
    by : (b : Bool) → is_eq (key_cmp x.key key) ≡ b → cond b (Some (made k n x)) (size_at key xs) ≡ Some y → HasOwner key y.claim (x ∷ xs)
    by true b f = (x, (rw b refl, sym (made_claim k n x) ∙ ap (λ (z : SizeRow). z.claim) (some_is (made k n x) y f)))
    by false b f = (y, (rw b f, refl))
changed_owner k n key y (x ∷ xs) (suc i) e = by (is_eq (key_cmp x.key key)) refl e (changed_owner k n key y xs i)
  where
    by : (b : Bool) → is_eq (key_cmp x.key key) ≡ b → cond b (Some x) (size_at key (changed_at i (made k n) xs)) ≡ Some y
        → (size_at key (changed_at i (made k n) xs) ≡ Some y → HasOwner key y.claim xs) → HasOwner key y.claim (x ∷ xs)
    by true b f rest = (x, (rw b refl, ap (λ (z : SizeRow). z.claim) (some_is x y f)))
    by false b f rest = let t = rest f in (t.0, (rw b t.1.0, t.1.1))

step_stands : (rows : List Object) (sizes : List SizeRow) (s : Option SizeStep) → SizesStand sizes rows → SizesStand (after_step s sizes) rows
step_stands rows sizes None stand key y e = stand key y e
step_stands rows sizes (Some s) stand key y e =
    let t = changed_owner s.kind s.bytes key y sizes s.place e in
    let u = stand key t.0 t.1.0 in
    (u.0, (u.1.0, u.1.1 ∙ ap (λ (z : Uid). Some z) t.1.1))

put_row_stands : (rows : List Object) (sizes : List SizeRow) (row : SizeRow) → SizesStand sizes rows → StandsAs rows row.key row.claim → SizesStand (put key_cmp size_key row sizes) rows
put_row_stands rows sizes row stand own key y e = by (is_eq (key_cmp row.key key)) refl
  where
    by : (b : Bool) → is_eq (key_cmp row.key key) ≡ b → StandsAs rows key y.claim
    by true b =
        let at : row.key ≡ key = same_keys row.key key b in
        let is : row ≡ y = some_is row y (sym (find-put key_cmp_total size_key row sizes) ∙ ap (λ (k : Key). size_at k (put key_cmp size_key row sizes)) at ∙ e) in
        subst (λ (z : SizeRow). StandsAs rows key z.claim) is (subst (λ (k : Key). StandsAs rows k row.claim) at own)
    by false b = stand key y (sym (find-put_other key_cmp_total size_key key row sizes b) ∙ e)

from_stands : (rows : List Object) (sizes : List SizeRow) (key : Key) (bytes : ℕ) (c : ClaimData) (uid : Option Uid) (got : Option Amount) (v : Option VolumeData)
    → SizesStand sizes rows → row_at key rows ≡ Some (Claim c) → c.meta.uid ≡ uid → SizesStand (row_from sizes key bytes uid got v) rows
from_stands rows sizes key bytes c None got v stand is has = stand
from_stands rows sizes key bytes c (Some uid) None v stand is has = stand
from_stands rows sizes key bytes c (Some uid) (Some got) None stand is has = stand
from_stands rows sizes key bytes c (Some uid) (Some got) (Some v) stand is has = by (size_at key sizes) refl
  where
    by : (o : Option SizeRow) → size_at key sizes ≡ o → SizesStand (grown_rows (grown_row o (first_row key uid got v bytes) bytes) sizes) rows
    by None e = put_row_stands rows sizes (first_row key uid got v bytes) stand (c, (is, has))
    by (Some x) e =
        let k : x.key ≡ key = equal_keys x.key key (found_key key_cmp_total size_key key x sizes e) in
        put_row_stands rows sizes (record x { asked = bytes }) stand (subst (λ (j : Key). StandsAs rows j x.claim) (sym k) (stand key x e))

grown_stands : (s : Side) (rows : List Object) (key : Key) (bytes : ℕ) → SizesStand s.sizes rows
    → SizesStand (grown_if (grow_fault (tally_of s rows) s.sizes rows key bytes) (sizes_grown s.sizes rows key bytes (claim_in (row_at key rows))) s.sizes) rows
grown_stands s rows key bytes stand = by (grow_fault (tally_of s rows) s.sizes rows key bytes)
  where
    claimed : (c : Option ClaimData) → claim_in (row_at key rows) ≡ c → SizesStand (sizes_grown s.sizes rows key bytes c) rows
    claimed None e = stand
    claimed (Some c) e = from_stands rows s.sizes key bytes c c.meta.uid c.got (volume_in (row_at (volume_key c.volume_name) rows)) stand (claim_stands key rows c e) refl

    by : (f : Option GrowError) → SizesStand (grown_if f (sizes_grown s.sizes rows key bytes (claim_in (row_at key rows))) s.sizes) rows
    by None = claimed (claim_in (row_at key rows)) refl
    by (Some error) = stand

ask_stands : (s : Side) (rows : List Object) (ask : SideAsk) → SizesStand s.sizes rows → SizesStand (after_ask s rows ask).sizes rows
ask_stands s rows (Create user object) stand = stand
ask_stands s rows (Grow user key bytes) stand = grown_stands s rows key bytes stand
ask_stands s rows (StepAsk kind key) stand = step_stands rows s.sizes (next_step (growth_of s)) stand

pub sizes_always_stand : SizesAlwaysStand
sizes_always_stand setup given [] is = λ key x e. none_some x e
sizes_always_stand setup given (OfWorld e ∷ m) is =
    let w = world setup (entries m) in
    let s = side setup given m in
    subst (λ (r : Reply). SizesStand (kept_after r s.sizes) (world_after w (effect setup w e.kind e.request)).store.rows) (sym is.1)
    (by_effect w s.sizes (sizes_always_stand setup given m is.0) (growth_at setup given m).order (effect setup w e.kind e.request)
    (on_effects (λ r. tt) setup w e.kind e.request (λ stale. outcome_changes w.store e.kind e.request w.moment stale))
    (writing setup w e.kind e.request).left)
sizes_always_stand setup given (OfSide a ∷ m) is = ask_stands (side setup given m) (world setup (entries m)).store.rows a.ask (sizes_always_stand setup given m is)
