-- The binder's writes on a volume's own account, and the second write of a binding.
use Rattle.std.proofs.Common.{◌≡◌, ◌∙◌, ◌⊎◌, ℕ, ◌+◌, ◌≤◌, List, Bool, true, false, true≢false, Option, Some, None, inl, inr, refl, sym, ap, subst, arith}
use Rattle.std.specs.Prelude.{bytes_eq, cond, not, ◌&&◌, ◌||◌, is_some}
use Rattle.std.proofs.lemmas.Bool.{and_from, and_parts}
use Rattle.std.proofs.lemmas.Slice.Eq.{bytes_eq-Decides}
use Rattle.kube_parts.specs.declared.uid.Uid.{Uid}
use Rattle.kube_objects.specs.declared.key.Key.{Key}
use Rattle.kube_parts.specs.declared.names.Due.{Due}
use Rattle.kube_parts.specs.declared.names.Due.TheVariants as dues
use Rattle.kube_parts.specs.declared.parts.VolumePhase.{VolumePhase}
use Rattle.kube_parts.specs.declared.parts.VolumePhase.TheVariants as volumes
use Rattle.kube_objects.specs.declared.objects.Ref.{Ref}
use Rattle.kube_objects.specs.declared.objects.Claim.{Claim as ClaimData}
use Rattle.kube_objects.specs.declared.objects.Volume.{Volume as VolumeData}
use Rattle.kube_objects.specs.declared.objects.Object.{Object}
use Rattle.kube_objects.specs.declared.objects.Object.TheVariants.{Class, Node, Volume, Claim, Pod}
use Rattle.kube_objects.specs.Bindings.{
  bound_by_controller,
  has_key,
  is_available,
  is_bound,
  is_completed,
  is_deleting,
  is_empty,
  is_ended,
  is_protected_volume,
  is_uid,
  carries,
  names_claim,
  refers_carrying,
  ref_uid,
  uid_carries,
}
use Rattle.kube_objects.specs.Keys.{AreRows, key_of, put_row, row_at}
use Rattle.kube_objects.proofs.KeyOrder.{row_at_key}
use Rattle.call_types.specs.declared.request.NewStatus.TheVariants as statuses
use Rattle.call_types.specs.declared.request.Request.TheVariants.{Update, UpdateStatus}
use Rattle.call_types.specs.declared.request.SeatKind.{SeatKind}
use Rattle.call_types.specs.declared.setup.Setup.{Setup}
use Rattle.binder_model.specs.Answers.{with_status}
use Rattle.binder_model.specs.BinderDue.{claim_with, reference_due, referred_due, uid_due, volume_due, is_reclaimed}
use Rattle.kube_objects.specs.Bindings.{has_name, pv_protection}
use Rattle.kube_objects.specs.Sources.{data_id_of}
use Rattle.plain_data.specs.Pairs.{without_key}
use Rattle.binder_model.specs.BindWrites.{shows_bound, unbound_volume, without_uid, write_bound, write_unbound}
use Rattle.binder_model.specs.ObjectKeys.{claim_key, volume_key}
use Rattle.binder_model.specs.Store.{at_version, has_no_names, leaves, updated_object, with_meta, with_status_of}
use Rattle.binder_model.specs.World.{Effect, World, effect, world_after}
use Rattle.model_laws.proofs.Lists.{IsIn, none_some, one}
use Rattle.safety_law.specs.Invariant.Writes.{IsLeaving, IsStatus, IsUpdate}
use Rattle.settle_measure.specs.Left.Measure.{
  claim_left,
  completed_left,
  guard_left,
  is_fit,
  is_lost,
  is_over,
  is_seeking,
  life_left,
  was_erased,
  is_awaited,
  left_of,
  left_on,
  phase_left,
  seeks,
  stage_left,
  unless,
  volume_left,
}
use Rattle.settle_measure.specs.Binding.Pays.{AvailablePays, BoundPays, ReleasePays, UnbindPays}
use Rattle.settle_measure.specs.Left.Lowers.{Lowers, StandsVolume}
use Rattle.settle_measure.proofs.Left.Entries.{Put, Took, came}
use Rattle.settle_measure.proofs.Left.Others.{Harmless}
use Rattle.settle_measure.proofs.Left.Sums.{stands}
use Rattle.settle_measure.proofs.Left.Volumes.{volume_put, volume_put_paid}

-- the volume with another phase, as it is written
abbrev pub phased : VolumeData → VolumePhase → ℕ → VolumeData
phased v phase version = record v { phase = phase; meta = record v.meta { version = version } }

-- the volume as an update writes it
abbrev pub rewritten : VolumeData → VolumeData → ℕ → VolumeData
rewritten v x version = record x { phase = v.phase; meta = record x.meta { uid = v.meta.uid; version = version; created = v.meta.created; deleted = v.meta.deleted } }

pub volume_of : (a b : VolumeData) → Volume a ≡ Volume b → a ≡ b
volume_of a b e = ap (λ o. taken_out o) e
  where
    taken_out : Object → VolumeData
    taken_out (Volume v) = v
    taken_out o = a

pub claim_of : (a b : ClaimData) → Claim a ≡ Claim b → a ≡ b
claim_of a b e = ap (λ o. taken_out o) e
  where
    taken_out : Object → ClaimData
    taken_out (Claim c) = c
    taken_out o = a

abbrev pub AllSafe : World → VolumeData → VolumeData → Type 0
AllSafe w v new = (c : ClaimData) → IsIn (Claim c) w.store.rows → Harmless v new c

module _ (setup : Setup) (w : World) (kind : SeatKind) (v : VolumeData) (s : StandsVolume w v) where
  pub key_is : key_of (Volume v) ≡ volume_key v.meta.name
  key_is = row_at_key (volume_key v.meta.name) (Volume v) w.store.rows s.there

  pub at_key : row_at (key_of (Volume v)) w.store.rows ≡ Some (Volume v)
  at_key = ap (λ k. row_at k w.store.rows) key_is ∙ s.there

  pub moved : (x : Effect) (new : VolumeData) → Put w x (Volume new) → left_of (world_after w x) ≡ left_on (put_row (Volume new) w.store.rows) w.devices
  moved x new put = ap (λ rows. left_on rows (world_after w x).devices) put.rows ∙ ap (left_on (put_row (Volume new) w.store.rows)) put.devices

  pub lowered : (x : Effect) (new : VolumeData) (n : ℕ) → key_of (Volume new) ≡ key_of (Volume v) → Put w x (Volume new) → AllSafe w v new
      → volume_left w.store.rows w.devices new + n ≤ volume_left w.store.rows w.devices v → left_of (world_after w x) + n ≤ left_of w
  lowered x new n same put safe less =
      let sum = volume_put w.store.rows w.devices s.order v new same at_key safe in
      let is = moved x new put in
      omega (arith, sum, is, less)

  pub status_lowers : (phase : VolumePhase) (given : Option ℕ) (n : ℕ) → AllSafe w v (phased v phase (w.store.version + 1))
      → volume_left w.store.rows w.devices (phased v phase (w.store.version + 1)) + n ≤ volume_left w.store.rows w.devices v
      → Lowers setup w kind (UpdateStatus (volume_key v.meta.name) (statuses.Volume phase) given) n
  unfolding at_version with_meta with_status leaves
  status_lowers phase given n safe less o e =
      let c = came setup w kind (UpdateStatus (volume_key v.meta.name) (statuses.Volume phase) given) o s.order e in
      by c.write c.store
    where
      is_new : (i : IsStatus w.store kind (volume_key v.meta.name) (statuses.Volume phase) given o) → o ≡ Volume (phased v phase (w.store.version + 1))
      is_new i =
          let old : i.old ≡ Volume v = one i.old (Volume v) (sym i.there ∙ s.there) in
          let fits : Some (Volume (record v { phase = phase })) ≡ Some i.new = sym (ap (with_status (statuses.Volume phase)) old) ∙ i.fits in
          i.is ∙ ap (λ x. at_version x (w.store.version + 1)) (sym (one (Volume (record v { phase = phase })) i.new fits))

      by : IsStatus w.store kind (volume_key v.meta.name) (statuses.Volume phase) given o
          → Put w (effect setup w kind (UpdateStatus (volume_key v.meta.name) (statuses.Volume phase) given)) o
          ⊎ Took w (effect setup w kind (UpdateStatus (volume_key v.meta.name) (statuses.Volume phase) given)) (UpdateStatus (volume_key v.meta.name) (statuses.Volume phase) given) o
          → left_of (world_after w (effect setup w kind (UpdateStatus (volume_key v.meta.name) (statuses.Volume phase) given))) + n ≤ left_of w
      by i (inl put) = lowered _ (phased v phase (w.store.version + 1)) n refl (subst (Put w _) (is_new i) put) safe less
      by i (inr took) = absurd (true≢false (sym (subst (IsLeaving (UpdateStatus (volume_key v.meta.name) (statuses.Volume phase) given)) (is_new i) took.leaves) ∙ s.stays))

  -- an update of the volume, where its being put lowers what is left to do
  pub update_by : (x : VolumeData) (given : Option ℕ) (n : ℕ) → key_of (Volume x) ≡ key_of (Volume v) → leaves (Volume (rewritten v x (w.store.version + 1))) ≡ false
      → ((y : Effect) → Put w y (Volume (rewritten v x (w.store.version + 1))) → left_of (world_after w y) + n ≤ left_of w)
      → Lowers setup w kind (Update (Volume x) given) n
  unfolding updated_object with_meta with_status_of
  update_by x given n same remains fall o e =
      let c = came setup w kind (Update (Volume x) given) o s.order e in
      by c.write c.store
    where
      is_new : IsUpdate w.store kind (Volume x) given o → o ≡ Volume (rewritten v x (w.store.version + 1))
      is_new i =
          let old : i.old ≡ Volume v = one i.old (Volume v) (sym i.there ∙ ap (λ k. row_at k w.store.rows) same ∙ at_key) in
          i.is ∙ ap (λ p. updated_object p (Volume x) (w.store.version + 1)) old

      by : IsUpdate w.store kind (Volume x) given o
          → Put w (effect setup w kind (Update (Volume x) given)) o ⊎ Took w (effect setup w kind (Update (Volume x) given)) (Update (Volume x) given) o
          → left_of (world_after w (effect setup w kind (Update (Volume x) given))) + n ≤ left_of w
      by i (inl put) = fall _ (subst (Put w _) (is_new i) put)
      by i (inr took) = absurd (true≢false (sym (subst (IsLeaving (Update (Volume x) given)) (is_new i) took.leaves) ∙ remains))

  pub update_lowers : (x : VolumeData) (given : Option ℕ) (n : ℕ) → key_of (Volume x) ≡ key_of (Volume v)
      → leaves (Volume (rewritten v x (w.store.version + 1))) ≡ false → AllSafe w v (rewritten v x (w.store.version + 1))
      → volume_left w.store.rows w.devices (rewritten v x (w.store.version + 1)) + n ≤ volume_left w.store.rows w.devices v
      → Lowers setup w kind (Update (Volume x) given) n
  update_lowers x given n same remains safe less = update_by x given n same remains (λ y put. lowered y (rewritten v x (w.store.version + 1)) n same put safe less)

  -- a claim pays for the volume
  pub lowered_paid : (x : Effect) (new : VolumeData) (n m : ℕ) (c : ClaimData)
      → row_at (claim_key c.meta.namespace c.meta.name) w.store.rows ≡ Some (Claim c) → key_of (Volume new) ≡ key_of (Volume v) → Put w x (Volume new) → AllSafe w v new
      → claim_left (put_row (Volume new) w.store.rows) w.devices c + m ≤ claim_left w.store.rows w.devices c
      → volume_left w.store.rows w.devices new + n ≤ volume_left w.store.rows w.devices v + m → left_of (world_after w x) + n ≤ left_of w
  lowered_paid x new n m c standing same put safe pay less =
      let sum = volume_put_paid w.store.rows w.devices s.order v new same at_key c.meta.namespace c.meta.name m (Claim c) standing safe (λ e i k. paid_by e i k) in
      let is = moved x new put in
      omega (arith, sum, is, less)
    where
      paid_by : (e : ClaimData) → IsIn (Claim e) w.store.rows → key_of (Claim e) ≡ claim_key c.meta.namespace c.meta.name
          → claim_left (put_row (Volume new) w.store.rows) w.devices e + m ≤ claim_left w.store.rows w.devices e
      paid_by e i k =
          let is : Claim e ≡ Claim c = one (Claim e) (Claim c) (sym (stands w.store.rows s.order (Claim e) i) ∙ ap (λ j. row_at j w.store.rows) k ∙ standing) in
          subst (λ d. claim_left (put_row (Volume new) w.store.rows) w.devices d + m ≤ claim_left w.store.rows w.devices d) (sym (claim_of e c is)) pay

-- numbers

pub unbound_ended : (p : VolumePhase) → is_ended p ≡ false → 2 ≤ phase_left p
unbound_ended volumes.Bound e = omega arith
unbound_ended volumes.Released e = absurd (true≢false e)
unbound_ended volumes.Failed e = absurd (true≢false e)
unbound_ended volumes.Pending e = omega arith
unbound_ended volumes.Available e = omega arith

pub unbound_left : (p : VolumePhase) → is_ended p ≡ false → is_bound p ≡ false → phase_left p ≡ 3
unbound_left volumes.Bound e f = absurd (true≢false f)
unbound_left volumes.Released e f = absurd (true≢false e)
unbound_left volumes.Failed e f = absurd (true≢false e)
unbound_left volumes.Pending e f = refl
unbound_left volumes.Available e f = refl

-- a volume that is not over has as much life in it as any, if its data and whether it is deleting stay
pub life_kept : (deleting over over_next erased : Bool) → over ≡ false → life_left deleting over_next erased ≤ life_left deleting over erased
life_kept true over over_next erased e = rw e (at_most over_next)
  where
    at_most : (b : Bool) → unless b 1 ≤ 1
    at_most true = omega arith
    at_most false = omega arith
life_kept false over over_next erased e = omega arith

pub not_over : (u : Option Uid) (p : VolumePhase) → (u ≡ None) ⊎ (is_ended p ≡ false) → is_over u p ≡ false
not_over u p (inl none) = ap (λ x. is_over x p) none
not_over u p (inr going) = ap (λ b. is_some u && b) going ∙ never (is_some u)
  where
    never : (b : Bool) → (b && false) ≡ false
    never true = refl
    never false = refl

-- references

pub no_carrier : (r : Option Ref) (c : ClaimData) → ref_uid r ≡ None → refers_carrying r c ≡ false
no_carrier None c e = refl
no_carrier (Some r) c e = ap (λ u. names_claim r c && uid_carries u c) e ∙ never (names_claim r c)
  where
    never : (b : Bool) → (b && false) ≡ false
    never true = refl
    never false = refl

pub same_ref : (r : Ref) (c : ClaimData) → refers_carrying (Some r) c ≡ true → (claim_key r.namespace r.name ≡ claim_key c.meta.namespace c.meta.name) × (uid_carries r.uid c ≡ true)
same_ref r c e =
    let p = and_parts (names_claim r c) (uid_carries r.uid c) e in
    let q = and_parts (bytes_eq r.namespace c.meta.namespace) (bytes_eq r.name c.meta.name) p.0 in
    let a : r.namespace ≡ c.meta.namespace = (bytes_eq-Decides r.namespace c.meta.namespace).0 q.0 in
    let b : r.name ≡ c.meta.name = (bytes_eq-Decides r.name c.meta.name).0 q.1 in
    (λ i. claim_key (a i) (b i), p.1)

pub false_not : {G : Type 0} (b : Bool) → b ≡ false → b ≡ true → G
false_not b f t = absurd (true≢false (sym t ∙ f))

-- Available

record IsFree (v : VolumeData) : Type 0 where
  uid : ref_uid v.claim_ref ≡ None
  phase : is_available v.phase ≡ false

abbrev is_free_due : Option Due → Bool
is_free_due (Some dues.Available) = true
is_free_due x = false

-- the claim is gone, or names another volume
abbrev is_away_due : Option Due → Bool
is_away_due (Some dues.Release) = true
is_away_due (Some dues.Unbind) = true
is_away_due x = false

abbrev is_unbind_due : Option Due → Bool
is_unbind_due (Some dues.Unbind) = true
is_unbind_due x = false

abbrev is_bound_due : Option Due → Bool
is_bound_due (Some dues.Bound) = true
is_bound_due x = false

pub no : {G : Type 0} → false ≡ true → G
no e = absurd (true≢false (sym e))

referred_free : (v : VolumeData) (c : Option ClaimData) → is_free_due (referred_due v c) ≡ true → ⊥
unfolding referred_due
referred_free v None e = no e
referred_free v (Some c) e = by (is_empty c.volume_name) (bytes_eq c.volume_name v.meta.name) (is_bound v.phase || not (is_protected_volume v)) (is_reclaimed v) e
  where
    by : (a b d f : Bool) → is_free_due (cond a None (cond b (cond d None (Some dues.Bound)) (cond f (Some dues.Release) (Some dues.Unbind)))) ≡ true → ⊥
    by true b d f e = no e
    by false true true f e = no e
    by false true false f e = no e
    by false false d true e = no e
    by false false d false e = no e

is_free : (rows : List Object) (v : VolumeData) → volume_due rows v ≡ Some dues.Available → IsFree v
unfolding volume_due reference_due
is_free rows v e = by v.claim_ref refl (ap is_free_due e)
  where
    free_if : (b : Bool) → is_free_due (cond b None (Some dues.Available)) ≡ true → b ≡ false
    free_if true e = no e
    free_if false e = refl

    ended : (b : Bool) (x : Option Due) → (is_free_due x ≡ true → ⊥) → is_free_due (cond b None x) ≡ true → ⊥
    ended true x f e = no e
    ended false x f e = f e

    by_uid : (r : Ref) (u : Option Uid) → v.claim_ref ≡ Some r → r.uid ≡ u → is_free_due (uid_due rows v r u) ≡ true → IsFree v
    by_uid r None er eu e = record { uid = ap ref_uid er ∙ eu; phase = free_if (is_available v.phase) e }
    by_uid r (Some u) er eu e = absurd (ended (is_ended v.phase) _ (referred_free v _) e)

    by : (r : Option Ref) → v.claim_ref ≡ r → is_free_due (reference_due rows v r) ≡ true → IsFree v
    by None er e = record { uid = ap ref_uid er; phase = free_if (is_available v.phase) e }
    by (Some r) er e = by_uid r r.uid er refl e

-- what has no UID carries nothing, before and after
free_safe : (v new : VolumeData) (c : ClaimData) → ref_uid v.claim_ref ≡ None → ref_uid new.claim_ref ≡ None → Harmless v new c
free_safe v new c e f =
    let before : carries v c ≡ false = no_carrier v.claim_ref c e in
    let after : carries new c ≡ false = no_carrier new.claim_ref c f in
    record {
      held = λ open_ staying which h. false_not _ before (and_parts (carries v c) _ (and_parts (carries v c && not (is_deleting v.meta)) _ h).0).0;
      offered = λ open_ staying empty h. false_not _ before (and_parts (carries v c) _ h).0;
      done = λ completed named. let same : completed_left c (Some (Volume new)) ≡ completed_left c (Some (Volume v)) = rw (before, after) refl in omega (arith, same);
    }

available_stage : (a : Bool) (u : Option Uid) (p : VolumePhase) → u ≡ None → is_available p ≡ false → stage_left a u volumes.Available + 1 ≤ stage_left a u p
available_stage a (Some uid) p e f = none_some (sym e)
available_stage a None p e f = rw f (omega arith)

pub available_pays : AvailablePays
available_pays setup w kind v s due =
    let free = is_free w.store.rows v due in
    let stage = available_stage (is_awaited w.store.rows v.claim_ref) (ref_uid v.claim_ref) v.phase free.uid free.phase in
    let life = life_kept (is_deleting v.meta) (is_over (ref_uid v.claim_ref) v.phase) (is_over (ref_uid v.claim_ref) volumes.Available)
    (was_erased (data_id_of v.source) w.devices.stored) (not_over (ref_uid v.claim_ref) v.phase (inl free.uid)) in
    status_lowers setup w kind v s volumes.Available (Some v.meta.version) 1 (λ c i. free_safe v (phased v volumes.Available (w.store.version + 1)) c free.uid free.uid) (omega (arith, stage, life))

-- Release and Unbind

record IsAway (rows : List Object) (v : VolumeData) (test : Option Due → Bool) : Type 0 where
  ref : Ref
  is : v.claim_ref ≡ Some ref
  uid : Uid
  has : ref.uid ≡ Some uid
  going : is_ended v.phase ≡ false
  due : test (referred_due v (claim_with uid (row_at (claim_key ref.namespace ref.name) rows))) ≡ true

-- a test that is met where the reference has a UID alone
record OfUid (test : Option Due → Bool) : Type 0 where
  none : test None ≡ false
  free : test (Some dues.Available) ≡ false

is_away : (rows : List Object) (v : VolumeData) (test : Option Due → Bool) → OfUid test → test (volume_due rows v) ≡ true → IsAway rows v test
unfolding volume_due reference_due
is_away rows v test of e = by v.claim_ref refl e
  where
    none_free : {G : Type 0} (b : Bool) → test (cond b None (Some dues.Available)) ≡ true → G
    none_free true e = false_not _ of.none e
    none_free false e = false_not _ of.free e

    ended : (r : Ref) (u : Uid) (b : Bool) → v.claim_ref ≡ Some r → r.uid ≡ Some u → is_ended v.phase ≡ b
        → test (cond b None (referred_due v (claim_with u (row_at (claim_key r.namespace r.name) rows)))) ≡ true → IsAway rows v test
    ended r u true er eu eb e = false_not _ of.none e
    ended r u false er eu eb e = record { ref = r; is = er; uid = u; has = eu; going = eb; due = e }

    by_uid : (r : Ref) (u : Option Uid) → v.claim_ref ≡ Some r → r.uid ≡ u → test (uid_due rows v r u) ≡ true → IsAway rows v test
    by_uid r None er eu e = none_free (is_available v.phase) e
    by_uid r (Some u) er eu e = ended r u (is_ended v.phase) er eu refl e

    by : (r : Option Ref) → v.claim_ref ≡ r → test (reference_due rows v r) ≡ true → IsAway rows v test
    by None er e = none_free (is_available v.phase) e
    by (Some r) er e = by_uid r r.uid er refl e

-- a claim that the volume carries names another volume
pub record IsElsewhere (v : VolumeData) (c : ClaimData) : Type 0 where
  names : is_empty c.volume_name ≡ false
  other : bytes_eq c.volume_name v.meta.name ≡ false

-- the claim that the volume carries is the one that was looked up
looked_up : (rows : List Object) (v : VolumeData) (test : Option Due → Bool) → AreRows rows → (a : IsAway rows v test) → (c : ClaimData)
    → IsIn (Claim c) rows → carries v c ≡ true → test (referred_due v (Some c)) ≡ true
unfolding claim_with
looked_up rows v test order a c i e =
    let r = same_ref a.ref c (ap (λ x. refers_carrying x c) (sym a.is) ∙ e) in
    let at : row_at (claim_key a.ref.namespace a.ref.name) rows ≡ Some (Claim c) = ap (λ k. row_at k rows) r.0 ∙ stands rows order (Claim c) i in
    let uid : is_uid c.meta.uid a.uid ≡ true = ap (λ u. uid_carries u c) (sym a.has) ∙ r.1 in
    let is_with : claim_with a.uid (row_at (claim_key a.ref.namespace a.ref.name) rows) ≡ Some c = ap (claim_with a.uid) at ∙ rw uid refl in
    ap (λ x. test (referred_due v x)) (sym is_with) ∙ a.due

away_due : (v : VolumeData) (c : ClaimData) → is_away_due (referred_due v (Some c)) ≡ true → IsElsewhere v c
unfolding referred_due
away_due v c e = by (is_empty c.volume_name) (bytes_eq c.volume_name v.meta.name) (is_bound v.phase || not (is_protected_volume v)) refl refl e
  where
    by : (a b d : Bool) → is_empty c.volume_name ≡ a → bytes_eq c.volume_name v.meta.name ≡ b
        → is_away_due (cond a None (cond b (cond d None (Some dues.Bound)) (cond (is_reclaimed v) (Some dues.Release) (Some dues.Unbind)))) ≡ true → IsElsewhere v c
    by true b d ea eb e = no e
    by false true true ea eb e = no e
    by false true false ea eb e = no e
    by false false d ea eb e = record { names = ea; other = eb }

elsewhere : (rows : List Object) (v : VolumeData) → AreRows rows → IsAway rows v is_away_due → (c : ClaimData) → IsIn (Claim c) rows → carries v c ≡ true → IsElsewhere v c
elsewhere rows v order a c i e = away_due v c (looked_up rows v is_away_due order a c i e)

pub named_same : (v : VolumeData) (c : ClaimData) → key_of (Volume v) ≡ volume_key c.volume_name → bytes_eq c.volume_name v.meta.name ≡ true
named_same v c e = (bytes_eq-Decides c.volume_name v.meta.name).1 (sym (ap (λ (k : Key). k.name) e))

-- what is written is not carried by more claims, and who is carried names another volume
away_safe : (v new : VolumeData) (c : ClaimData) → (carries v c ≡ true → IsElsewhere v c) → (carries new c ≡ true → carries v c ≡ true) → Harmless v new c
away_safe v new c away less =
    record {
      held = λ open_ staying which h. let here = (and_parts (carries v c) _ (and_parts (carries v c && not (is_deleting v.meta)) _ h).0).0 in let a = away here in elim which [
        | inl empty ↦ false_not _ a.names empty
        | inr named ↦ false_not _ a.other (named_same v c named)
      ];
      offered = λ open_ staying empty h. let a = away (and_parts (carries v c) _ h).0 in false_not _ a.names empty;
      done = λ completed named. let n = named_same v c named in
          let before : carries v c ≡ false = never (carries v c) (λ h. true≢false (sym n ∙ (away h).other)) in
          let after : carries new c ≡ false = never (carries new c) (λ h. true≢false (sym n ∙ (away (less h)).other)) in
          let same : completed_left c (Some (Volume new)) ≡ completed_left c (Some (Volume v)) = rw (before, after) refl in
          omega (arith, same);
    }
  where
    never : (b : Bool) → (b ≡ true → ⊥) → b ≡ false
    never true f = absurd (f refl)
    never false f = refl

away_test : OfUid is_away_due
away_test = record { none = refl; free = refl }

pub with_uid : (a : Bool) (u : Option Uid) (uid : Uid) (p : VolumePhase) → u ≡ Some uid → stage_left a u p ≡ phase_left p
with_uid a u uid p e = ap (λ x. stage_left a x p) e

pub release_pays : ReleasePays
release_pays setup w kind v s due =
    let a = is_away w.store.rows v is_away_due away_test (ap is_away_due due) in
    let uid : ref_uid v.claim_ref ≡ Some a.uid = ap ref_uid a.is ∙ a.has in
    let before = with_uid (is_awaited w.store.rows v.claim_ref) (ref_uid v.claim_ref) a.uid v.phase uid in
    let after = with_uid (is_awaited w.store.rows v.claim_ref) (ref_uid v.claim_ref) a.uid volumes.Released uid in
    let most = unbound_ended v.phase a.going in
    let one_unit : phase_left volumes.Released ≡ 1 = refl in
    let life = life_kept (is_deleting v.meta) (is_over (ref_uid v.claim_ref) v.phase) (is_over (ref_uid v.claim_ref) volumes.Released)
    (was_erased (data_id_of v.source) w.devices.stored) (not_over (ref_uid v.claim_ref) v.phase (inr a.going)) in
    status_lowers setup w kind v s volumes.Released (Some v.meta.version) 1
    (λ c i. away_safe v (phased v volumes.Released (w.store.version + 1)) c (elsewhere w.store.rows v s.order a c i) (λ h. h)) (omega (arith, before, after, most, one_unit, life))

-- phase Bound, by the volume's own sync or as the second write

bound_safe : (v : VolumeData) (n : ℕ) (c : ClaimData) → is_ended v.phase ≡ false → is_bound v.phase ≡ false → Harmless v (phased v volumes.Bound n) c
bound_safe v n c going fresh = record {
  held = λ open_ staying which h. let q = and_parts (carries v c && not (is_deleting v.meta)) (not (is_ended v.phase)) h in and_from (carries v c && not (is_deleting v.meta)) true q.0 refl;
  offered = λ open_ staying empty h.
      let q = and_parts (carries v c) (is_fit v c && not (is_ended v.phase)) h in
      let r = and_parts (is_fit v c) (not (is_ended v.phase)) q.1 in
      and_from (carries v c) (is_fit v c && true) q.0 (and_from (is_fit v c) true r.0 refl);
  done = λ completed named.
      let was : completed_left c (Some (Volume v)) ≡ cond (carries v c && true) (1 + unless (is_lost c.phase) 1) (5 + unless (is_lost c.phase) 1) = rw (going, fresh) refl in
      let less = shown_less (carries v c && true) (shows_bound c (phased v volumes.Bound n)) (is_lost c.phase) in
      omega (arith, was, less);
}
  where
    shown_less : (a s l : Bool) → cond a (unless s 1) (5 + unless l 1) ≤ cond a (1 + unless l 1) (5 + unless l 1)
    shown_less true true l = omega arith
    shown_less true false l = omega arith
    shown_less false s l = omega arith

pub bound_write_pays : (setup : Setup) (w : World) (kind : SeatKind) (v : VolumeData) (uid : Uid) → StandsVolume w v → ref_uid v.claim_ref ≡ Some uid
    → is_ended v.phase ≡ false → is_bound v.phase ≡ false → Lowers setup w kind (write_bound v) 1
bound_write_pays setup w kind v uid s has going fresh =
    let before = with_uid (is_awaited w.store.rows v.claim_ref) (ref_uid v.claim_ref) uid v.phase has in
    let after = with_uid (is_awaited w.store.rows v.claim_ref) (ref_uid v.claim_ref) uid volumes.Bound has in
    let is = unbound_left v.phase going fresh in
    let two : phase_left volumes.Bound ≡ 2 = refl in
    let life = life_kept (is_deleting v.meta) (is_over (ref_uid v.claim_ref) v.phase) (is_over (ref_uid v.claim_ref) volumes.Bound)
    (was_erased (data_id_of v.source) w.devices.stored) (not_over (ref_uid v.claim_ref) v.phase (inr going)) in
    status_lowers setup w kind v s volumes.Bound (Some v.meta.version) 1 (λ c i. bound_safe v (w.store.version + 1) c going fresh) (omega (arith, before, after, is, two, life))

bound_due : (v : VolumeData) (c : Option ClaimData) → is_bound_due (referred_due v c) ≡ true → is_bound v.phase ≡ false
unfolding referred_due
bound_due v None e = no e
bound_due v (Some c) e = by (is_empty c.volume_name) (bytes_eq c.volume_name v.meta.name) (is_bound v.phase) (not (is_protected_volume v)) (is_reclaimed v) refl e
  where
    by : (a b d g f : Bool) → is_bound v.phase ≡ d
        → is_bound_due (cond a None (cond b (cond (d || g) None (Some dues.Bound)) (cond f (Some dues.Release) (Some dues.Unbind)))) ≡ true → is_bound v.phase ≡ false
    by true b d g f ed e = no e
    by false true true g f ed e = no e
    by false true false g f ed e = ed
    by false false d g true ed e = no e
    by false false d g false ed e = no e

pub bound_pays : BoundPays
bound_pays setup w kind v s due =
    let a = is_away w.store.rows v is_bound_due (record { none = refl; free = refl }) (ap is_bound_due due) in
    bound_write_pays setup w kind v a.uid s (ap ref_uid a.is ∙ a.has) a.going (bound_due v _ a.due)

-- Unbind

unbind_is_away : (x : Option Due) → is_unbind_due x ≡ true → is_away_due x ≡ true
unbind_is_away None e = no e
unbind_is_away (Some dues.Unbind) e = refl
unbind_is_away (Some x) e = no_other x e
  where
    no_other : (x : Due) → is_unbind_due (Some x) ≡ true → is_away_due (Some x) ≡ true
    no_other dues.Unbind e = refl
    no_other dues.Release e = refl
    no_other x e = no e

released : (v : VolumeData) → referred_due v None ≡ Some dues.Release
unfolding referred_due
released v = refl

none_seeks : (v : VolumeData) (uid : Uid) (row : Option Object) → is_unbind_due (referred_due v (claim_with uid row)) ≡ true → seeks row ≡ false
unfolding claim_with
none_seeks v uid None e = refl
none_seeks v uid (Some (Class x)) e = refl
none_seeks v uid (Some (Node x)) e = refl
none_seeks v uid (Some (Volume x)) e = refl
none_seeks v uid (Some (Pod x)) e = refl
none_seeks v uid (Some (Claim c)) e = by (is_uid c.meta.uid uid) e
  where
    never : (b : Bool) → (b && false) ≡ false
    never true = refl
    never false = refl

    by : (b : Bool) → is_unbind_due (referred_due v (cond b (Some c) None)) ≡ true → is_seeking c ≡ false
    by true e = let a = away_due v c (unbind_is_away _ e) in ap (λ b. not (is_completed c) && not (is_deleting c.meta) && b) a.names ∙ never (not (is_completed c) && not (is_deleting c.meta))
    by false e = no (subst (λ x. is_unbind_due x ≡ true) (released v) e)

no_longer : (v : VolumeData) (r : Option Ref) → r ≡ v.claim_ref → ref_uid (without_uid r) ≡ None
no_longer v None e = refl
no_longer v (Some r) e = refl

awaited_no : (rows : List Object) (r : Ref) → seeks (row_at (claim_key r.namespace r.name) rows) ≡ false → is_awaited rows (without_uid (Some r)) ≡ false
awaited_no rows r e = e

free_stage : (a : Bool) (u : Option Uid) (p : VolumePhase) → u ≡ None → a ≡ false → stage_left a u p ≤ 1
free_stage a (Some uid) p e f = none_some (sym e)
free_stage a None p e f = by a (is_available p) f
  where
    by : (a b : Bool) → a ≡ false → unless b 1 + unless (not a) 4 ≤ 1
    by true b e = absurd (true≢false e)
    by false true e = omega arith
    by false false e = omega arith

module _ (setup : Setup) (w : World) (kind : SeatKind) (v : VolumeData) (s : StandsVolume w v) (a : IsAway w.store.rows v is_unbind_due) where
  unbind_away : (c : ClaimData) → IsIn (Claim c) w.store.rows → carries v c ≡ true → IsElsewhere v c
  unbind_away c i e = away_due v c (unbind_is_away _ (looked_up w.store.rows v is_unbind_due s.order a c i e))

  -- the volume without its UID
  unbind_as : (x : VolumeData) → key_of (Volume x) ≡ key_of (Volume v) → ref_uid x.claim_ref ≡ None → is_awaited w.store.rows x.claim_ref ≡ false
      → x.meta.finalizers ≡ v.meta.finalizers → x.source ≡ v.source
      → Lowers setup w kind (Update (Volume x) (Some v.meta.version)) 1
  unfolding leaves
  unbind_as x same gone free fin src =
      let uid : ref_uid v.claim_ref ≡ Some a.uid = ap ref_uid a.is ∙ a.has in
      let before = with_uid (is_awaited w.store.rows v.claim_ref) (ref_uid v.claim_ref) a.uid v.phase uid in
      let after = free_stage (is_awaited w.store.rows x.claim_ref) (ref_uid x.claim_ref) v.phase gone free in
      let most = unbound_ended v.phase a.going in
      let remains : leaves (Volume (rewritten v x (w.store.version + 1))) ≡ false = ap (λ f. is_deleting v.meta && has_no_names f) fin ∙ s.stays in
      let same_life : life_left (is_deleting v.meta) (is_over (ref_uid x.claim_ref) v.phase)
      (was_erased (data_id_of x.source) w.devices.stored) ≡ life_left (is_deleting v.meta) (is_over (ref_uid x.claim_ref) v.phase)
      (was_erased (data_id_of v.source) w.devices.stored) = ap (λ q. life_left (is_deleting v.meta) (is_over (ref_uid x.claim_ref) v.phase) (was_erased (data_id_of q) w.devices.stored)) src in
      let life = life_kept (is_deleting v.meta) (is_over (ref_uid v.claim_ref) v.phase) (is_over (ref_uid x.claim_ref) v.phase)
      (was_erased (data_id_of v.source) w.devices.stored) (not_over (ref_uid v.claim_ref) v.phase (inr a.going)) in
      let guard : guard_left (is_deleting v.meta) (has_name pv_protection x.meta.finalizers) ≡ guard_left (is_deleting v.meta)
      (is_protected_volume v) = ap (λ f. guard_left (is_deleting v.meta) (has_name pv_protection f)) fin in
      update_lowers setup w kind v s x (Some v.meta.version) 1 same remains
      (λ c i. away_safe v (rewritten v x (w.store.version + 1)) c (unbind_away c i) (λ h. false_not _ (no_carrier x.claim_ref c gone) h))
      (omega (arith, before, after, most, same_life, life, guard))

  unbind_so : (b : Bool) → has_key bound_by_controller v.meta.annotations ≡ b → Lowers setup w kind (write_unbound v) 1
  unfolding unbound_volume
  unbind_so true e = rw e (unbind_as (record v { claim_ref = None; meta = record v.meta { annotations = without_key bound_by_controller v.meta.annotations } }) refl refl refl refl refl)
  unbind_so false e =
      let free : is_awaited w.store.rows (without_uid v.claim_ref) ≡ false = ap (λ r. is_awaited w.store.rows (without_uid r)) a.is
      ∙ none_seeks v a.uid (row_at (claim_key a.ref.namespace a.ref.name) w.store.rows) a.due in
      rw e (unbind_as (record v { claim_ref = without_uid v.claim_ref }) refl (no_longer v v.claim_ref refl) free refl refl)

pub unbind_pays : UnbindPays
unbind_pays setup w kind v s due =
    let a = is_away w.store.rows v is_unbind_due (record { none = refl; free = refl }) (ap is_unbind_due due) in
    unbind_so setup w kind v s a (has_key bound_by_controller v.meta.annotations) refl
