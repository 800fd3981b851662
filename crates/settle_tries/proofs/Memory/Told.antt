-- What a seat was told never refuses the node that stands selected: so this is the node of the claim, where the seat sees it.
use Rattle.std.proofs.Common.{ℕ, ◌≡◌, ◌∙◌, ◌⊎◌, ◌≤◌, ◌+◌, Bool, true, false, true≢false, not, List, [], ◌∷◌, ◌++◌, Option, Some, None, inl, inr, refl, sym, ap, subst, arith, if◌then◌else◌}
use Rattle.std.specs.Prelude.{◌==◌, ◌&&◌, bytes_eq, nat_lt}
use Rattle.std.proofs.lemmas.Bool.Decides.{nat_tests}
use Rattle.std.proofs.lemmas.Slice.Eq.{bytes_eq-Decides}
use Rattle.kube_objects.specs.declared.key.Key.{Key}
use Rattle.kube_parts.specs.declared.uid.Uid.{Uid}
use Rattle.kube_objects.specs.declared.objects.Claim.{Claim as ClaimData}
use Rattle.kube_objects.specs.declared.objects.Object.{Object}
use Rattle.kube_objects.specs.declared.objects.Object.TheVariants.{Claim}
use Rattle.kube_objects.specs.declared.objects.Pod.{Pod as PodData}
use Rattle.kube_objects.specs.Bindings.{is_completed}
use Rattle.kube_objects.specs.Keys.{AreRows, key_of, meta_of, put_row, row_at, without_row}
use Rattle.kube_objects.proofs.KeyOrder.{row_at-put_row, row_at-put_row_other, row_at-without_row, row_at-without_row_other}
use Rattle.kube_objects.proofs.SameKeys.{key_tells}
use Rattle.call_types.specs.declared.entry.Entry.{Entry}
use Rattle.call_types.specs.declared.request.Request.{Request}
use Rattle.call_types.specs.declared.request.Request.TheVariants.{Delete, Update}
use Rattle.call_types.specs.declared.request.SeatKind.{SeatKind}
use Rattle.call_types.specs.declared.reply.Change.{Change}
use Rattle.call_types.specs.declared.reply.Reply.{Reply}
use Rattle.call_types.specs.declared.reply.Reply.TheVariants.{Done}
use Rattle.call_types.specs.declared.setup.Setup.{Setup}
use Rattle.binder_model.specs.Answers.{Says, Stores, Removes, after, reply_of}
use Rattle.binder_model.specs.Promises.{IsRunOf}
use Rattle.binder_model.specs.Told.{SomeOf, ToldObject, objects_in, own}
use Rattle.binder_model.specs.World.{Effect, IsHistory, OnDevices, OnStore, SetsMoment, World, effect, reply_to, world, world_after}
use Rattle.model_laws.specs.Calls.{IsSecondDelete}
use Rattle.model_laws.specs.Steps.{KeepsStore, WritesOnce}
use Rattle.model_laws.specs.Stood.{Stood}
use Rattle.model_laws.proofs.Effects.{OfStore, on_effects}
use Rattle.model_laws.proofs.Growing.{runs_are_histories}
use Rattle.model_laws.proofs.Histories.{rows_stand_in_order}
use Rattle.model_laws.proofs.Lists.{IsIn, none_some, one}
use Rattle.model_laws.proofs.Replies.{done_writes_or_deletes_again}
use Rattle.model_laws.proofs.Stood.{one_uid_one_key, one_version_one_object, stood, version_stood}
use Rattle.model_laws.proofs.Truths.{told_is_true}
use Rattle.model_laws.proofs.Versions.{NextOf, outcome_next, versions_count_writes}
use Rattle.model_laws.proofs.Watched.{lt_false}
use Rattle.pod_scheduler.specs.declared.tries.Tried.{Tried}
use Rattle.pod_scheduler.specs.Decisions.{is_tried_for}
use Rattle.pod_scheduler.specs.Tries.{is_other_node, is_refusal, is_try_of, node_selected_for, see_all, tried_of, tries_after, tries_of}
use Rattle.pod_scheduler.specs.TryLaw.{HasNode, Selecting, Selects}
use Rattle.pod_scheduler.proofs.Tried.{selected_were_selected}
use Rattle.settle_tries.proofs.Memory.Memory.{Holds, Spares, all_keeps, all_spare, found_for, select_finds, tells_hold}

-- ---- what stood under a key is no newer than what stands there

pub record IsPut (w : World) (x : Effect) (p : Object) : Type 0 where
  pub done : reply_to x ≡ Done p
  pub version : (meta_of p).version ≡ w.store.version + 1
  pub change : Change
  pub is : x ≡ OnStore (Stores change p)

low_step : (w : World) (x : Effect) → AreRows w.store.rows → OfStore (NextOf (w.store.version + 1)) x → (k : Key) (p : Object)
    → row_at k (world_after w x).store.rows ≡ Some p → (row_at k w.store.rows ≡ Some p) ⊎ IsPut w x p
unfolding world_after after reply_to reply_of
low_step w (OnStore (Says reply)) rows n k p is = inl is
low_step w (OnStore (Stores change new)) rows n k p is = elim (key_tells (key_of new) k) [
  | inl same ↦
      let e : new ≡ p = one new p (sym (row_at-put_row new w.store.rows) ∙ ap (λ j. row_at j (put_row new w.store.rows)) same ∙ is) in
      inr (subst (IsPut w (OnStore (Stores change new))) e (record { done = refl; version = n; change = change; is = refl }))
  | inr other ↦ inl (sym (row_at-put_row_other k new w.store.rows other) ∙ is)
]
low_step w (OnStore (Removes last)) rows n k p is = elim (key_tells (key_of last) k) [
  | inl same ↦ none_some (sym (row_at-without_row (key_of last) w.store.rows rows) ∙ ap (λ j. row_at j (without_row (key_of last) w.store.rows)) same ∙ is)
  | inr other ↦ inl (sym (row_at-without_row_other (key_of last) k w.store.rows other) ∙ is)
]
low_step w (OnDevices a) rows n k p is = inl is
low_step w (SetsMoment at) rows n k p is = inl is

pub row_step : (setup : Setup) (e : Entry) (past : List Entry) (k : Key) (p : Object) → row_at k (world setup (e ∷ past)).store.rows ≡ Some p
    → (row_at k (world setup past).store.rows ≡ Some p) ⊎ IsPut (world setup past) (effect setup (world setup past) e.kind e.request) p
row_step setup e past k p is =
    low_step (world setup past) (effect setup (world setup past) e.kind e.request) (rows_stand_in_order setup past)
    (on_effects (λ r. tt) setup (world setup past) e.kind e.request (outcome_next (world setup past).store e.kind e.request (world setup past).moment)).on k p is

pub stood_low : (setup : Setup) (past : List Entry) (o p : Object) → Stood setup past o → row_at (key_of o) (world setup past).store.rows ≡ Some p → (meta_of o).version ≤ (meta_of p).version
stood_low setup [] o p s at = let same : (meta_of o).version ≡ (meta_of p).version = ap (λ x. (meta_of x).version) (one o p (sym s ∙ at)) in omega (arith, same)
stood_low setup (e ∷ past) o p (inr now) at = let same : (meta_of o).version ≡ (meta_of p).version = ap (λ x. (meta_of x).version) (one o p (sym now ∙ at)) in omega (arith, same)
stood_low setup (e ∷ past) o p (inl before) at = elim (row_step setup e past (key_of o) p at) [
  | inl same ↦ stood_low setup past o p before same
  | inr new ↦ let low = version_stood setup past o before in let version = new.version in omega (arith, low, version)
]

-- ---- a write that was done is at the version of the store then

abbrev is_delete_of : Request → Bool
is_delete_of (Delete key given) = true
is_delete_of r = false

object_or : Object → Reply → Object
object_or o (Done x) = x
object_or o reply = o

abbrev is_done : Reply → Bool
is_done (Done o) = true
is_done reply = false

pub done_version : (setup : Setup) (w : World) (kind : SeatKind) (asked : Object) (given : Option ℕ) (o : Object) → reply_to (effect setup w kind (Update asked given)) ≡ Done o
    → ((meta_of o).version ≡ w.store.version + 1) × ((world_after w (effect setup w kind (Update asked given))).store.version ≡ w.store.version + 1)
unfolding object_or
done_version setup w kind asked given o said = by (versions_count_writes setup w kind (Update asked given))
  where
    by : KeepsStore w (world_after w (effect setup w kind (Update asked given)))
        ⊎ WritesOnce w (world_after w (effect setup w kind (Update asked given))) (reply_to (effect setup w kind (Update asked given)))
        → ((meta_of o).version ≡ w.store.version + 1) × ((world_after w (effect setup w kind (Update asked given))).store.version ≡ w.store.version + 1)
    by (inl k) =
        let d : IsSecondDelete w (Update asked given) o = done_writes_or_deletes_again setup w kind (Update asked given) o said (ap (λ s. s.version) k.store) in
        absurd (true≢false (sym (ap is_delete_of d.asked)))
    by (inr k) = elim k.told [
      | inl done ↦ let same : o ≡ k.event.object = ap (object_or o) (sym said ∙ done) in (ap (λ x. (meta_of x).version) same ∙ k.next, k.version)
      | inr left ↦ absurd (true≢false (sym (ap is_done said) ∙ ap is_done left))
    ]

-- ---- no row that the seat was told refuses what stands selected

and_mid : (a b c : Bool) → b ≡ false → (a && b && c) ≡ false
and_mid true b c e = rw e refl
and_mid false b c e = refl

pub never_newer : (t : Tried) (c : ClaimData) → c.meta.version ≤ t.version → is_refusal t c ≡ false
never_newer t c low = and_mid (not (is_completed c)) (nat_lt t.version c.meta.version) (is_other_node t.node (node_selected_for c)) (lt_false t.version c.meta.version low)

pub seat_is : (a b : ℕ) → (a == b) ≡ true → a ≡ b
seat_is a b e = grind (arith, nat_tests)

module _ (setup : Setup) (seat : ℕ) (uid : Uid) (t : Tried) where
  abbrev ToldIt : ClaimData → List Entry → Type 0
  ToldIt c mine = ToldObject (λ o. o ≡ Claim c) mine

  abbrev Before : List Entry → Type 0
  Before past = tried_of uid (tries_of (own seat past)).selected ≡ Some t → (d : ClaimData) → ToldIt d (own seat past) → d.meta.uid ≡ Some uid → is_refusal t d ≡ false

  pub spared : (past : List Entry) → IsHistory setup past → tried_of uid (tries_of (own seat past)).selected ≡ Some t → (c : ClaimData)
      → ToldIt c (own seat past) → c.meta.uid ≡ Some uid → is_refusal t c ≡ false
  spared [] history at c told known = absurd told
  spared (e ∷ past) history at c told known = by (e.seat == seat) refl at told (spared past history.0)
    where
      mine_low : (e.seat == seat) ≡ true → (c.meta.version ≤ (world setup (e ∷ past)).store.version)
      mine_low is = version_stood setup (e ∷ past) (Claim c) (told_is_true setup (e ∷ past) seat (Claim c) history told)

      newly : (request : Request) (reply : Reply) → e.request ≡ request → e.reply ≡ reply → Selecting t request reply → (e.seat == seat) ≡ true → is_refusal t c ≡ false
      newly (Update (Claim asked) given) (Done (Claim new)) er ea s is =
          let said : reply_to (effect setup (world setup past) e.kind (Update (Claim asked) given)) ≡ Done (Claim new) =
          sym (ap (λ r. reply_to (effect setup (world setup past) e.kind r)) er) ∙ (sym history.1 ∙ ea) in
          let v = done_version setup (world setup past) e.kind (Claim asked) given (Claim new) said in
          let same : (world setup (e ∷ past)).store.version ≡ (world setup past).store.version + 1 =
          ap (λ r. (world_after (world setup past) (effect setup (world setup past) e.kind r)).store.version) er ∙ v.1 in
          let low = mine_low is in
          let at_new = v.0 in
          let version = s.version in
          never_newer t c (omega (arith, same, low, at_new, version))
      newly _ _ er ea s is = absurd s

      here : (b : Bool) → e.told ≡ b → (e.seat == seat) ≡ true
          → tried_of uid (if b then tries_after e.request e.reply (tries_of (own seat past)) else tries_of (own seat past)).selected ≡ Some t
          → ToldIt c (e ∷ own seat past) → Before past → is_refusal t c ≡ false
      here true is_told is sel (inl it) before = elim (select_finds e.request e.reply (see_all (objects_in e.reply) (tries_of (own seat past))) uid t sel) [
        | inl old ↦ all_spare (objects_in e.reply) (tries_of (own seat past)) uid t c old it.1 known
        | inr new ↦ newly e.request e.reply refl refl new.0 is
      ]
      here true is_told is sel (inr more) before = elim (select_finds e.request e.reply (see_all (objects_in e.reply) (tries_of (own seat past))) uid t sel) [
        | inl old ↦ before (all_keeps (objects_in e.reply) (tries_of (own seat past)) uid t old) c more known
        | inr new ↦ newly e.request e.reply refl refl new.0 is
      ]
      here false is_told is sel (inl it) before = absurd (true≢false (sym it.0 ∙ is_told))
      here false is_told is sel (inr more) before = before sel c more known

      by : (b : Bool) → (e.seat == seat) ≡ b → tried_of uid (tries_of (if b then e ∷ own seat past else own seat past)).selected ≡ Some t
          → ToldIt c (if b then e ∷ own seat past else own seat past) → Before past → is_refusal t c ≡ false
      by true is sel it before = here e.told refl is sel it before
      by false is sel it before = before sel c it known

-- ---- the node that stands selected is that of the claim

found_in : (uid : Uid) (ts : List Tried) (t : Tried) → tried_of uid ts ≡ Some t → IsIn t ts
found_in uid [] t e = none_some e
found_in uid (x ∷ ts) t e = by (is_try_of uid x) refl e (found_in uid ts t)
  where
    by : (b : Bool) → is_try_of uid x ≡ b → (if b then Some x else tried_of uid ts) ≡ Some t → (tried_of uid ts ≡ Some t → IsIn t ts) → IsIn t (x ∷ ts)
    by true is e more = inl (one x t e)
    by false is e more = inr (more e)

pub record WasSelected (t : Tried) (mine : List Entry) : Type 0 where
  pub claim : ClaimData
  pub told : ToldObject (λ o. o ≡ Claim claim) mine
  pub has : HasNode t claim

selected_told : (t : Tried) (mine : List Entry) → SomeOf (Selects t) mine → WasSelected t mine
selected_told t [] s = absurd s
selected_told t (e ∷ mine) (inr more) = let r = selected_told t mine more in record { claim = r.claim; told = inr r.told; has = r.has }
selected_told t (e ∷ mine) (inl here) = by e.request e.reply refl here.1
  where
    by : (request : Request) (reply : Reply) → e.reply ≡ reply → Selecting t request reply → WasSelected t (e ∷ mine)
    by (Update (Claim asked) given) (Done (Claim c)) ea s = record { claim = c; told = inl (here.0, subst (λ r. IsIn (Claim c) (objects_in r)) (sym ea) (inl refl)); has = s }
    by _ _ ea s = absurd s

abbrev pub selected_on : Object → Option (List ℕ)
selected_on (Claim c) = node_selected_for c
selected_on o = None

module _ (setup : Setup) (seat : ℕ) (past : List Entry) (run : IsRunOf setup past) (uid : Uid) (t : Tried) (at : tried_of uid (tries_of (own seat past)).selected ≡ Some t) where
  history : IsHistory setup past
  history = runs_are_histories setup past run.run

  -- where it is no newer than the write that selected it, it is what was written
  old_node : (c : ClaimData) → row_at (key_of (Claim c)) (world setup past).store.rows ≡ Some (Claim c) → c.meta.uid ≡ Some uid → c.meta.version ≤ t.version → node_selected_for c ≡ Some t.node
  old_node c there known low =
      let s = selected_told t (own seat past) (selected_were_selected (own seat past) t (found_in uid (tries_of (own seat past)).selected t at)) in
      let stood_ = told_is_true setup past seat (Claim s.claim) history s.told in
      let claim_is : s.claim.meta.uid ≡ Some uid = s.has.claim ∙ ap Some (found_for uid (tries_of (own seat past)).selected t at) in
      let now = stood setup past (Claim c) there in
      let key = one_uid_one_key setup past run.imports run.short (Claim s.claim) (Claim c) uid stood_ now claim_is known in
      let up = stood_low setup past (Claim s.claim) (Claim c) stood_ (ap (λ k. row_at k (world setup past).store.rows) key ∙ there) in
      let version = s.has.version in
      let same : s.claim.meta.version ≡ c.meta.version = omega (arith, up, low, version) in
      let is = one_version_one_object setup past (Claim s.claim) (Claim c) stood_ now same (inl key) in
      sym (ap selected_on is) ∙ s.has.node

  pub sees_node : (c : ClaimData) → row_at (key_of (Claim c)) (world setup past).store.rows ≡ Some (Claim c)
      → ToldObject (λ o. o ≡ Claim c) (own seat past) → c.meta.uid ≡ Some uid → is_completed c ≡ false → node_selected_for c ≡ Some t.node
  sees_node c there told known open_ = by (nat_lt t.version c.meta.version) refl (spared setup seat uid t past history at c told known)
    where
      on : (n : Option (List ℕ)) → node_selected_for c ≡ n → is_other_node t.node n ≡ false → node_selected_for c ≡ Some t.node
      on None is other = absurd (true≢false other)
      on (Some seen) is other = is ∙ ap Some (sym ((bytes_eq-Decides t.node seen).0 (by_not (bytes_eq t.node seen) other)))
        where
          by_not : (b : Bool) → not b ≡ false → b ≡ true
          by_not true e = refl
          by_not false e = absurd (true≢false e)

      tested : (a b : Bool) → a ≡ false → b ≡ true → (not a && b && is_other_node t.node (node_selected_for c)) ≡ false → is_other_node t.node (node_selected_for c) ≡ false
      tested true b ea eb e = absurd (true≢false ea)
      tested false true ea eb e = e
      tested false false ea eb e = absurd (true≢false (sym eb))

      by : (b : Bool) → nat_lt t.version c.meta.version ≡ b → is_refusal t c ≡ false → node_selected_for c ≡ Some t.node
      by true newer e = on (node_selected_for c) refl (tested (is_completed c) (nat_lt t.version c.meta.version) open_ newer e)
      by false older e = old_node c there known (grind (arith, nat_tests))

-- ---- the entries of a seat, one after the other

module _ (setup : Setup) (seat : ℕ) (rows : List Object) (p : PodData) (node : List ℕ) (aside : Uid → Type 0) (first : Uid) (ours : is_tried_for rows p first ≡ true) where
  pub record Passes (e : Entry) (g : List Entry) : Type 0 where
    pub spares : (o : Object) → IsIn o (objects_in e.reply) → Spares rows p node aside first ours o (tries_of (own seat g))
    pub none : (t : Tried) → Selecting t e.request e.reply → is_tried_for rows p t.claim ≡ true → ⊥

  pub run_holds : (newer past : List Entry)
      → ((ahead behind : List Entry) (e : Entry) → newer ≡ ahead ++ (e ∷ behind) → e.seat ≡ seat → e.told ≡ true → Passes e (behind ++ past))
      → Holds rows p node aside first ours (tries_of (own seat past))
      → Holds rows p node aside first ours (tries_of (own seat (newer ++ past)))
  run_holds [] past passes h = h
  run_holds (e ∷ newer) past passes h = by (e.seat == seat) refl (run_holds newer past (λ ahead behind x is. passes (e ∷ ahead) behind x (ap (λ es. e ∷ es) is)) h)
    where
      told : (b : Bool) → e.told ≡ b → (e.seat == seat) ≡ true → Holds rows p node aside first ours (tries_of (own seat (newer ++ past)))
          → Holds rows p node aside first ours (if b then tries_after e.request e.reply (tries_of (own seat (newer ++ past))) else tries_of (own seat (newer ++ past)))
      told true is_told is before =
          let q = passes [] newer e refl (seat_is e.seat seat is) is_told in
          tells_hold rows p node aside first ours e.request e.reply (objects_in e.reply) (tries_of (own seat (newer ++ past))) before q.spares q.none
      told false is_told is before = before

      by : (b : Bool) → (e.seat == seat) ≡ b → Holds rows p node aside first ours (tries_of (own seat (newer ++ past)))
          → Holds rows p node aside first ours (tries_of (if b then e ∷ own seat (newer ++ past) else own seat (newer ++ past)))
      by true is before = told e.told refl is before
      by false is before = before

-- what stands selected did so before, where none of the entries selects
pub tried_back : (seat : ℕ) (uid : Uid) (t : Tried) (newer past : List Entry)
    → ((ahead behind : List Entry) (e : Entry) → newer ≡ ahead ++ (e ∷ behind) → (u : Tried) → Selecting u e.request e.reply → u.claim ≡ uid → ⊥)
    → tried_of uid (tries_of (own seat (newer ++ past))).selected ≡ Some t → tried_of uid (tries_of (own seat past)).selected ≡ Some t
tried_back seat uid t [] past none at = at
tried_back seat uid t (e ∷ newer) past none at = tried_back seat uid t newer past (λ ahead behind x is. none (e ∷ ahead) behind x (ap (λ es. e ∷ es) is)) (by (e.seat == seat) at)
  where
    told : (b : Bool) → tried_of uid (if b then tries_after e.request e.reply (tries_of (own seat (newer ++ past))) else tries_of
        (own seat (newer ++ past))).selected ≡ Some t → tried_of uid (tries_of (own seat (newer ++ past))).selected ≡ Some t
    told true f = elim (select_finds e.request e.reply (see_all (objects_in e.reply) (tries_of (own seat (newer ++ past)))) uid t f) [
      | inl before ↦ all_keeps (objects_in e.reply) (tries_of (own seat (newer ++ past))) uid t before
      | inr new ↦ absurd (none [] newer e refl t new.0 new.1)
    ]
    told false f = f

    by : (b : Bool) → tried_of uid (tries_of (if b then e ∷ own seat (newer ++ past) else own seat (newer ++ past))).selected ≡ Some t
        → tried_of uid (tries_of (own seat (newer ++ past))).selected ≡ Some t
    by true f = told e.told f
    by false f = f

-- where what stood then stands
pub record StandsAt (setup : Setup) (newer past : List Entry) (o : Object) : Type 0 where
  pub ahead : List Entry
  pub behind : List Entry
  pub are : newer ≡ ahead ++ behind
  pub there : row_at (key_of o) (world setup (behind ++ past)).store.rows ≡ Some o

pub stood_where : (setup : Setup) (newer past : List Entry) (o : Object) → Stood setup (newer ++ past) o → StandsAt setup newer past o ⊎ Stood setup past o
stood_where setup [] past o s = inr s
stood_where setup (e ∷ newer) past o (inr now) = inl (record { ahead = []; behind = e ∷ newer; are = refl; there = now })
stood_where setup (e ∷ newer) past o (inl before) = elim (stood_where setup newer past o before) [
  | inl x ↦ inl (record { ahead = e ∷ x.ahead; behind = x.behind; are = ap (λ es. e ∷ es) x.are; there = x.there })
  | inr first ↦ inr first
]
