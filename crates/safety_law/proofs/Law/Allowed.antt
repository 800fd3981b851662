-- Each write of an allowed request is one that any run may make.
use Rattle.std.proofs.Common.{sym, refl, subst, inl, inr, ap, ◌∙◌, true≢false, arith}
use Rattle.std.proofs.lemmas.Bool.Decides.{nat_tests}
use Rattle.std.specs.Prelude.{if◌then◌else◌, ℕ, ◌≡◌, ◌≢◌, ◌==◌, Bool, true, false, ◌&&◌, List, [], ◌∷◌, Option, Some, None, is_some, bytes_eq, unwrap_or, ◌++◌}
use Rattle.plain_data.specs.Pairs.{value_at}
use Rattle.kube_parts.specs.declared.uid.Uid.{Uid}
use Rattle.kube_objects.specs.declared.key.Key.{Key}
use Rattle.kube_parts.specs.declared.parts.Kind.TheVariants as kinds
use Rattle.kube_parts.specs.declared.parts.VolumePhase.{VolumePhase}
use Rattle.kube_parts.specs.declared.parts.VolumePhase.TheVariants as volumes
use Rattle.kube_objects.specs.declared.objects.Ref.{Ref}
use Rattle.kube_objects.specs.declared.objects.Volume.{Volume as VolumeData}
use Rattle.kube_objects.specs.declared.objects.Claim.{Claim as ClaimData}
use Rattle.kube_objects.specs.declared.objects.Object.{Object}
use Rattle.kube_objects.specs.declared.objects.Object.TheVariants.{Volume, Claim, Pod}
use Rattle.kube_objects.specs.Keys.{meta_of, key_of, row_at}
use Rattle.kube_objects.specs.Bindings.{is_scheduled, has_name, pvc_protection, is_empty, is_completed, is_protected_volume, is_protected_claim, ref_uid, bind_completed}
use Rattle.kube_objects.proofs.KeyOrder.{row_at_key}
use Rattle.kube_objects.specs.declared.objects.Pod.{Pod as PodData}
use Rattle.call_types.specs.declared.entry.Entry.{Entry}
use Rattle.call_types.specs.declared.setup.Setup.{Setup}
use Rattle.call_types.specs.declared.request.NewStatus.{NewStatus}
use Rattle.call_types.specs.declared.request.NewStatus.TheVariants as statuses
use Rattle.call_types.specs.declared.request.SeatKind.{SeatKind}
use Rattle.call_types.specs.declared.request.SeatKind.TheVariants as seats
use Rattle.call_types.specs.declared.request.Request.{Request}
use Rattle.call_types.specs.declared.request.Request.TheVariants as requests
use Rattle.call_types.specs.declared.edit.Edit.{Edit}
use Rattle.binder_model.specs.Store.{with_finalizer, with_meta, at_version, marked_object, created_object, updated_object, admitted_object, without_status, with_status_of}
use Rattle.binder_model.specs.Fields.{update_fault, changed_field, create_fault, kind_fault, volume_fault, is_subdomain}
use Rattle.binder_model.specs.Answers.{is_other_version, guard_on, with_status, is_user}
use Rattle.binder_model.specs.At.{IsWrittenAt}
use Rattle.binder_model.specs.BindWrites.{ref_to}
use Rattle.binder_model.specs.Provisioning.{provisioned_volume}
use Rattle.binder_model.specs.BinderLicence.{WasReadGone}
use Rattle.binder_model.specs.OpsLicence.{MayCreate, MayClearNode}
use Rattle.binder_model.specs.Licence.{ClaimMay, Licensed, PhaseMay, Takes, VolumeMay, binder_claim, binder_phase, binder_volume, claim_guard, ops_phase, volume_guard}
use Rattle.binder_model.specs.SchedulerLicence.{MaySelectNode}
use Rattle.binder_model.specs.Told.{ToldVolume, ToldClaim, own}
use Rattle.binder_model.specs.World.{world}
use Rattle.binder_model.specs.Same.{same_names}
use Rattle.safety_law.specs.Invariant.Writes.{IsCreate, IsUpdate, IsEdit, IsStatus, IsMark, Writes}
use Rattle.safety_law.proofs.Invariant.Whence.{created_first, updated_next, status_next, marked_next, bound_next, finished_next}
use Rattle.model_laws.proofs.Newest.{newest_told}
use Rattle.safety_law.proofs.Invariant.Tests.{same_text}
use Rattle.safety_law.specs.Invariant.Was.{IsPlaced, WasNamed, KindStep, KindStart, Made, IsNotThere, Refers, VolumeStep, ClaimStep}
use Rattle.safety_law.specs.Invariant.Invariant.{Invariant}
use Rattle.safety_law.proofs.Invariant.Came.{row_was}
use Rattle.safety_law.specs.Invariant.Good.{IsTrue}
use Rattle.safety_law.proofs.Invariant.Known.{told_volume, told_claim}
use Rattle.safety_law.proofs.Law.Rows.{stored_volume, phased, IsSafe, same_step, take_step, unbind_step, bind_step, free_step, release_away, end_step, unguard_step, guard_step}
use Rattle.safety_law.proofs.Law.Claims.{stored_claim, same_claim, complete_step, assign_step, select_step, clear_step, guard_claim_step, unguard_claim_step}
use Rattle.safety_law.proofs.Law.Users.{claim_guards_same, passes, completion_same, user_step, no_uid_given}
use Rattle.std.proofs.lemmas.Bool.{and_parts, not-false}
use Rattle.std.proofs.lemmas.Option.{same_Some}
use Rattle.safety_law.proofs.Invariant.Objects.{same_volume}
use Rattle.safety_law.proofs.Invariant.Objects.{same_claim as same_claim_object}
use Rattle.std.specs.Prelude.{◌<◌, ◌+◌}
use Rattle.binder_model.specs.Imports.{most_serials}
use Rattle.model_laws.specs.Stood.{Stood}
use Rattle.model_laws.proofs.Stood.{one_version_one_object}
use Rattle.model_laws.proofs.FinalizerNames.{has_appended}
use Rattle.model_laws.proofs.Identity.{faulty_none}

-- what is known by what the seat was told
pub record Known (setup : Setup) (past mine : List Entry) : Type 1 where
  pub seat : ℕ
  pub is_own : mine ≡ own seat past
  pub told : IsTrue setup past mine
  pub gone : (o : VolumeData) (r : Ref) (uid : Uid) → r.uid ≡ Some uid → WasReadGone mine o r uid → IsNotThere (world setup past) uid

-- the told object at the current version is the one that stands
pub same_version : (given : Option ℕ) (told now : ℕ) → given ≡ Some told → is_other_version given now ≡ false → told ≡ now
same_version None told now e v = absurd (true≢false (sym (ap is_some e)))
same_version (Some g) told now e v =
    let same : g ≡ told = ap (λ x. unwrap_or x g) e in
    let t : (g == now) ≡ true = not-false (g == now) v in
    let n : g ≡ now = grind (arith, nat_tests) in
    sym same ∙ n

at_one : (setup : Setup) (past : List Entry) → Invariant setup past → (o a : Object) (key : Key) (given : Option ℕ) → Stood setup past o
    → given ≡ Some (meta_of o).version → key_of o ≡ key → row_at key (world setup past).store.rows ≡ Some a
    → is_other_version given (meta_of a).version ≡ false → o ≡ a
at_one setup past inv o a key given was version keyed is v =
    one_version_one_object setup past o a was (row_was setup past key a is) (same_version given (meta_of o).version (meta_of a).version version v) (inl (keyed ∙ sym (row_at_key key a _ is)))

volume_at : (o : VolumeData) (key : Key) (given : Option ℕ) → key.kind ≡ kinds.PersistentVolume → IsWrittenAt given key.namespace key.name o.meta
    → key_of (Volume o) ≡ key
volume_at o key given k at = λ i. record { kind = sym k i; namespace = at.placed i; name = at.named i }

claim_at : (o : ClaimData) (key : Key) (given : Option ℕ) → key.kind ≡ kinds.PersistentVolumeClaim → IsWrittenAt given key.namespace key.name o.meta
    → key_of (Claim o) ≡ key
claim_at o key given k at = λ i. record { kind = sym k i; namespace = at.placed i; name = at.named i }

module _ (setup : Setup) (past mine : List Entry) (inv : Invariant setup past) (known : Known setup past mine) where
  -- a row at the told object is one at the object that stands
  at_volume : (a : VolumeData) (key : Key) (given : Option ℕ) (Row : VolumeData → Type 0) → key.kind ≡ kinds.PersistentVolume
      → ToldVolume (λ o. IsWrittenAt given key.namespace key.name o.meta × Row o) mine → row_at key (world setup past).store.rows ≡ Some (Volume a)
      → is_other_version given a.meta.version ≡ false → Row a
  at_volume a key given Row k told is v =
      let t = told_volume setup past mine known.told (λ o. IsWrittenAt given key.namespace key.name o.meta × Row o) told in
      let same : t.0 ≡ a = same_volume t.0 a (at_one setup past inv (Volume t.0) (Volume a) key given t.1 t.2.0.version (volume_at t.0 key given k t.2.0) is v) in
      subst Row same t.2.1

  pub at_claim : (a : ClaimData) (key : Key) (given : Option ℕ) (Row : ClaimData → Type 0) → key.kind ≡ kinds.PersistentVolumeClaim
      → ToldClaim (λ o. IsWrittenAt given key.namespace key.name o.meta × Row o) mine → row_at key (world setup past).store.rows ≡ Some (Claim a)
      → is_other_version given a.meta.version ≡ false → Row a
  at_claim a key given Row k told is v =
      let t = told_claim setup past mine known.told (λ o. IsWrittenAt given key.namespace key.name o.meta × Row o) told in
      let same : t.0 ≡ a = same_claim_object t.0 a (at_one setup past inv (Claim t.0) (Claim a) key given t.1 t.2.0.version (claim_at t.0 key given k t.2.0) is v) in
      subst Row same t.2.1

-- the claims and the node of a pod are fixed

same_lists : (a b : List (List ℕ)) → same_names a b ≡ true → a ≡ b
same_lists [] [] e = refl
same_lists [] (y ∷ ys) e = absurd (true≢false (sym e))
same_lists (x ∷ xs) [] e = absurd (true≢false (sym e))
same_lists (x ∷ xs) (y ∷ ys) e =
    let t = and_parts (bytes_eq x y) (same_names xs ys) e in
    let h = same_text x y t.0 in
    let r = same_lists xs ys t.1 in
    λ i. h i ∷ r i

pod_same : (a b : PodData) → update_fault (Pod a) (Pod b) ≡ None → (b.node ≡ a.node) × (b.claims ≡ a.claims)
unfolding update_fault changed_field
pod_same a b e =
    let f = faulty_none _ _ _ e in
    let t = and_parts (same_names a.claims b.claims && bytes_eq a.node b.node) (bytes_eq a.extra b.extra) (not-false _ f.0) in
    let s = and_parts (same_names a.claims b.claims) (bytes_eq a.node b.node) t.0 in
    (sym (same_text a.node b.node s.1), sym (same_lists a.claims b.claims s.0))

-- updates

module _ (setup : Setup) (past mine : List Entry) (inv : Invariant setup past) (known : Known setup past mine) where
  binder_volume_step : (a b : VolumeData) (n : ℕ) (u : Option Uid) → IsSafe a → VolumeMay (binder_volume u) mine b a → VolumeStep setup past a (stored_volume a b n)
  binder_volume_step a b n None safe row = unbind_step setup past mine inv known.told a b n safe row
  binder_volume_step a b n (Some u) safe row = take_step setup past mine known.told a b n safe row

  binder_claim_step : (a b : ClaimData) (n : ℕ) (done : Bool) → ClaimMay (binder_claim done) mine b a → ClaimStep setup past a (stored_claim a b n)
  binder_claim_step a b n true row = complete_step setup past mine known.told a b n row
  binder_claim_step a b n false row = assign_step setup past mine a b n row

volume_guard_step : (setup : Setup) (past mine : List Entry) (a b : VolumeData) (n : ℕ) (guards : Bool) → IsSafe a → VolumeMay (volume_guard guards) mine b a
    → VolumeStep setup past a (stored_volume a b n)
volume_guard_step setup past mine a b n true safe row = guard_step setup past a b n safe row
volume_guard_step setup past mine a b n false safe row = unguard_step setup past a b n row

claim_guard_step : (setup : Setup) (past mine : List Entry) → Known setup past mine → (a b : ClaimData) (n : ℕ) (guards : Bool)
    → is_protected_claim b ≡ guards → ClaimMay (claim_guard guards) mine b a → ClaimStep setup past a (stored_claim a b n)
claim_guard_step setup past mine known a b n true is row = guard_claim_step setup past a b n is row
claim_guard_step setup past mine known a b n false is row = unguard_claim_step setup past mine known.seat known.is_own a b n row

user_volume : (setup : Setup) (past : List Entry) (a b : VolumeData) (n : ℕ) → IsSafe a → guard_on seats.User (Some (Volume a)) (Volume b) ≡ None
    → VolumeStep setup past a (stored_volume a b n)
user_volume setup past a b n safe g = user_step setup past a b n safe (passes (Some (Volume a)) (Volume b) g)

user_claim : (setup : Setup) (past : List Entry) (a b : ClaimData) (n : ℕ) → guard_on seats.User (Some (Claim a)) (Claim b) ≡ None
    → ClaimStep setup past a (stored_claim a b n)
user_claim setup past a b n g = same_claim setup past a (stored_claim a b n) (ap is_some
    (sym (completion_same (Some (Claim a)) (Claim b) (passes (Some (Claim a)) (Claim b) g)))) (sym (claim_guards_same (Claim a) (Claim b) (passes (Some (Claim a)) (Claim b) g)))

module _ (setup : Setup) (past mine : List Entry) (inv : Invariant setup past) (known : Known setup past mine) where
  update_volume : (kind : SeatKind) (a b : VolumeData) (given : Option ℕ) (n : ℕ) → IsSafe a → Licensed kind mine (requests.Update (Volume b) given)
      → guard_on kind (Some (Volume a)) (Volume b) ≡ None → is_other_version given a.meta.version ≡ false
      → row_at (key_of (Volume b)) (world setup past).store.rows ≡ Some (Volume a) → VolumeStep setup past a (stored_volume a b n)
  update_volume seats.User a b given n safe l g v is = user_volume setup past a b n safe g
  update_volume seats.Binder a b given n safe l g v is =
      binder_volume_step setup past mine inv known a b n (ref_uid b.claim_ref) safe
      (at_volume setup past mine inv known a (key_of (Volume b)) given (VolumeMay (binder_volume (ref_uid b.claim_ref)) mine b) refl l.1 is v)
  update_volume seats.Ops a b given n safe l g v is = absurd l.1
  update_volume seats.Scheduler a b given n safe l g v is =
      take_step setup past mine known.told a b n safe (at_volume setup past mine inv known a (key_of (Volume b)) given (VolumeMay Takes mine b) refl l.1 is v)
  update_volume seats.ClaimProtect a b given n safe l g v is = absurd l.1
  update_volume seats.VolumeProtect a b given n safe l g v is =
      volume_guard_step setup past mine a b n (is_protected_volume b) safe
      (at_volume setup past mine inv known a (key_of (Volume b)) given (VolumeMay (volume_guard (is_protected_volume b)) mine b) refl l.1 is v)
  update_volume seats.Agent a b given n safe l g v is = absurd l.1

  update_claim : (kind : SeatKind) (a b : ClaimData) (given : Option ℕ) (n : ℕ) → Licensed kind mine (requests.Update (Claim b) given)
      → guard_on kind (Some (Claim a)) (Claim b) ≡ None → is_other_version given a.meta.version ≡ false
      → row_at (key_of (Claim b)) (world setup past).store.rows ≡ Some (Claim a) → ClaimStep setup past a (stored_claim a b n)
  update_claim seats.User a b given n l g v is = user_claim setup past a b n g
  update_claim seats.Binder a b given n l g v is =
      binder_claim_step setup past mine inv known a b n (is_completed b) (at_claim setup past mine inv known a (key_of (Claim b)) given (ClaimMay (binder_claim (is_completed b)) mine b) refl l.1 is v)
  update_claim seats.Ops a b given n l g v is =
      clear_step setup past mine a b n (at_claim setup past mine inv known a (key_of (Claim b)) given (λ o. MayClearNode mine o b) refl l.1 is v)
  update_claim seats.Scheduler a b given n l g v is =
      select_step setup past mine a b n (at_claim setup past mine inv known a (key_of (Claim b)) given (λ o. MaySelectNode mine o b) refl l.1 is v)
  update_claim seats.ClaimProtect a b given n l g v is =
      claim_guard_step setup past mine known a b n (is_protected_claim b) refl
      (at_claim setup past mine inv known a (key_of (Claim b)) given (ClaimMay (claim_guard (is_protected_claim b)) mine b) refl l.1 is v)
  update_claim seats.VolumeProtect a b given n l g v is = absurd l.1
  update_claim seats.Agent a b given n l g v is = absurd l.1

-- what is Bound in the store is protected
is_safe : (setup : Setup) (past : List Entry) → Invariant setup past → (key : Key) (a : VolumeData)
    → row_at key (world setup past).store.rows ≡ Some (Volume a) → IsSafe a
is_safe setup past inv key a is bound = inv.guarded key a is bound

module _ (setup : Setup) (past mine : List Entry) (inv : Invariant setup past) (known : Known setup past mine) where
  update_step : (kind : SeatKind) (old new : Object) (given : Option ℕ) (n : ℕ) → Licensed kind mine (requests.Update new given)
      → guard_on kind (Some old) new ≡ None → is_other_version given (meta_of old).version ≡ false
      → row_at (key_of new) (world setup past).store.rows ≡ Some old → update_fault old new ≡ None
      → KindStep setup past old (updated_object old new n)
  unfolding updated_object with_status_of with_meta
  update_step kind (Volume a) (Volume b) given n l g v is f = update_volume setup past mine inv known kind a b given n (is_safe setup past inv (key_of (Volume b)) a is) l g v is
  update_step kind (Claim a) (Claim b) given n l g v is f = update_claim setup past mine inv known kind a b given n l g v is
  update_step kind (Pod a) (Pod b) given n l g v is f = let s = pod_same a b f in record { placed = λ t. s.0; claims = s.1 }
  update_step kind old new given n l g v is f = tt

  update_made : (kind : SeatKind) (new : Object) (given : Option ℕ) (o : Object) → Licensed kind mine (requests.Update new given)
      → IsUpdate (world setup past).store kind new given o → Made setup past o
  update_made kind new given o l u = inr (record {
    old = u.old;
    next = updated_next (world setup past).store kind new given o u;
    step = subst (KindStep setup past u.old) (sym u.is) (update_step kind u.old new given _ l u.guard u.version u.there u.fault);
  })
  -- edits

edit_step : (setup : Setup) (past : List Entry) → Invariant setup past → (old new : Object) (n : ℕ) → guard_on seats.User (Some old) new ≡ None
    → row_at (key_of new) (world setup past).store.rows ≡ Some old → update_fault old new ≡ None → KindStep setup past old (updated_object old new n)
unfolding updated_object with_status_of with_meta
edit_step setup past inv (Volume a) (Volume b) n g is f = user_volume setup past a b n (is_safe setup past inv (key_of (Volume b)) a is) g
edit_step setup past inv (Claim a) (Claim b) n g is f = user_claim setup past a b n g
edit_step setup past inv (Pod a) (Pod b) n g is f = let s = pod_same a b f in record { placed = λ t. s.0; claims = s.1 }
edit_step setup past inv old new n g is f = tt

edited_made : (setup : Setup) (past : List Entry) → Invariant setup past → (new o : Object) → IsUpdate (world setup past).store seats.User new None o → Made setup past o
edited_made setup past inv new o u = inr (record {
  old = u.old;
  next = updated_next (world setup past).store seats.User new None o u;
  step = subst (KindStep setup past u.old) (sym u.is) (edit_step setup past inv u.old new _ u.guard u.there u.fault);
})

-- statuses

module _ (setup : Setup) (past mine : List Entry) (inv : Invariant setup past) (known : Known setup past mine) where
  binder_phase_step : (a : VolumeData) (phase : VolumePhase) (n : ℕ) → IsSafe a → PhaseMay (binder_phase phase) mine a → VolumeStep setup past a (phased a phase n)
  binder_phase_step a volumes.Pending n safe row = absurd row
  binder_phase_step a volumes.Available n safe row = free_step setup past a n safe row
  binder_phase_step a volumes.Bound n safe row = bind_step setup past mine a n row
  binder_phase_step a volumes.Released n safe row = end_step setup past a volumes.Released n refl refl safe (inr (release_away setup past mine inv known.told known.gone a row))
  binder_phase_step a volumes.Failed n safe row = absurd row

ops_phase_step : (setup : Setup) (past mine : List Entry) (a : VolumeData) (phase : VolumePhase) (n : ℕ) → IsSafe a → PhaseMay (ops_phase phase) mine a
    → VolumeStep setup past a (phased a phase n)
ops_phase_step setup past mine a volumes.Failed n safe row = end_step setup past a volumes.Failed n refl refl safe (inl row.ended)
ops_phase_step setup past mine a volumes.Pending n safe row = absurd row
ops_phase_step setup past mine a volumes.Available n safe row = absurd row
ops_phase_step setup past mine a volumes.Bound n safe row = absurd row
ops_phase_step setup past mine a volumes.Released n safe row = absurd row

module _ (setup : Setup) (past mine : List Entry) (inv : Invariant setup past) (known : Known setup past mine) where
  volume_status : (kind : SeatKind) (key : Key) (a : VolumeData) (phase : VolumePhase) (given : Option ℕ) (n : ℕ)
      → Licensed kind mine (requests.UpdateStatus key (statuses.Volume phase) given)
      → is_user kind ≡ false → is_other_version given a.meta.version ≡ false → row_at key (world setup past).store.rows ≡ Some (Volume a)
      → VolumeStep setup past a (phased a phase n)
  volume_status seats.User key a phase given n l c v is = absurd (true≢false c)
  volume_status seats.Binder key a phase given n l c v is =
      binder_phase_step setup past mine inv known a phase n (is_safe setup past inv key a is) (at_volume setup past mine inv known a key given (PhaseMay (binder_phase phase) mine) l.1.0 l.1.1 is v)
  volume_status seats.Ops key a phase given n l c v is =
      ops_phase_step setup past mine a phase n (is_safe setup past inv key a is) (at_volume setup past mine inv known a key given (PhaseMay (ops_phase phase) mine) l.1.0 l.1.1 is v)
  volume_status seats.Scheduler key a phase given n l c v is = absurd l.1
  volume_status seats.ClaimProtect key a phase given n l c v is = absurd l.1
  volume_status seats.VolumeProtect key a phase given n l c v is = absurd l.1
  volume_status seats.Agent key a phase given n l c v is = absurd l.1

  -- what a status makes of an object
  status_step : (kind : SeatKind) (key : Key) (status : NewStatus) (old new : Object) (given : Option ℕ) (n : ℕ)
      → Licensed kind mine (requests.UpdateStatus key status given)
      → is_user kind ≡ false → is_other_version given (meta_of old).version ≡ false → row_at key (world setup past).store.rows ≡ Some old
      → with_status status old ≡ Some new → KindStep setup past old (at_version new n)
  unfolding with_status at_version with_meta
  status_step kind key (statuses.Volume phase) (Volume a) new given n l c v is fits =
      subst (λ (x : Object). KindStep setup past (Volume a) (at_version x n)) (same_Some _ _ fits) (volume_status kind key a phase given n l c v is)
  status_step kind key (statuses.Claim phase modes amount) (Claim a) new given n l c v is fits =
      subst (λ (x : Object). KindStep setup past (Claim a) (at_version x n)) (same_Some _ _ fits) (same_claim setup past a _ refl refl)
  status_step kind key status old new given n l c v is fits = absurd (true≢false (sym (ap is_some fits)))

  status_made : (kind : SeatKind) (key : Key) (status : NewStatus) (given : Option ℕ) (o : Object)
      → Licensed kind mine (requests.UpdateStatus key status given) → IsStatus (world setup past).store kind key status given o → Made setup past o
  status_made kind key status given o l u = inr (record {
    old = u.old;
    next = status_next (world setup past).store kind key status given o u;
    step = subst (KindStep setup past u.old) (sym u.is) (status_step kind key status u.old u.new given _ l u.controller u.version u.there u.fits);
  })
  -- deletes, by anyone

mark_step : (setup : Setup) (past : List Entry) → Invariant setup past → (key : Key) (old : Object) (n : ℕ) (moment : List ℕ)
    → row_at key (world setup past).store.rows ≡ Some old → KindStep setup past old (marked_object old n moment)
unfolding marked_object with_meta
mark_step setup past inv key (Volume a) n moment is = same_step setup past a _ refl refl refl (is_safe setup past inv key a is)
mark_step setup past inv key (Claim a) n moment is = same_claim setup past a _ refl refl
mark_step setup past inv key (Pod a) n moment is = record { placed = λ s. refl; claims = refl }
mark_step setup past inv key old n moment is = tt

mark_made : (setup : Setup) (past : List Entry) → Invariant setup past → (key : Key) (given : Option Uid) (o : Object)
    → IsMark (world setup past).store (world setup past).moment key given o → Made setup past o
mark_made setup past inv key given o u = inr (record {
  old = u.old;
  next = marked_next (world setup past).store (world setup past).moment key given o u;
  step = subst (KindStep setup past u.old) (sym u.is) (mark_step setup past inv key u.old _ _ u.there);
})

-- pods

bind_step_pod : (setup : Setup) (past : List Entry) (p : PodData) (node : List ℕ) (n : ℕ) → is_scheduled p ≡ false → KindStep setup past (Pod p) (at_version (Pod (record p { node = node })) n)
unfolding at_version with_meta
bind_step_pod setup past p node n free = record { placed = λ s. absurd (true≢false (sym s ∙ free)); claims = refl }

finish_step_pod : (setup : Setup) (past : List Entry) (p : PodData) (n : ℕ) → KindStep setup past (Pod p) (at_version (Pod p) n)
unfolding at_version with_meta
finish_step_pod setup past p n = record { placed = λ s. refl; claims = refl }

-- creates

empty_text : (t : List ℕ) → is_empty t ≡ true → t ≡ []
empty_text [] e = refl
empty_text (c ∷ cs) e = absurd (true≢false (sym e))

titled : (name : List ℕ) → is_subdomain name ≡ true → name ≢ []
titled name e none = let no : is_subdomain [] ≡ true = subst (λ (x : List ℕ). is_subdomain x ≡ true) none e in absurd (true≢false (sym no))

pub volume_placed : (lacks : Bool) (v : VolumeData) → create_fault lacks (Volume v) ≡ None → IsPlaced (key_of (Volume v))
unfolding create_fault kind_fault volume_fault
volume_placed lacks v e =
    let t = faulty_none _ _ _ e in
    let s = faulty_none _ _ _ t.1 in
    record { global = empty_text v.meta.namespace (not-false _ s.0); titled = titled v.meta.name (not-false _ t.0) }

-- a new volume, whose reference with a UID, if any, names a claim that was
created_volume : (setup : Setup) (past : List Entry) (lacks : Bool) (default : Option (List ℕ)) (v : VolumeData) (n : ℕ) (moment : List ℕ)
    → create_fault lacks (Volume v) ≡ None → ((r : Ref) (uid : Uid) → Refers v r uid → WasNamed setup past r uid)
    → KindStart setup past (created_object default (Volume v) n moment)
unfolding created_object admitted_object without_status with_meta
created_volume setup past lacks default v n moment fault refers =
    let p = volume_placed lacks v fault in
    record { pending = refl; refers = λ r uid h. refers r uid (record { is = h.is; known = h.known }); placed = record { global = p.global; titled = p.titled } }

no_value : (x : Option (List ℕ)) → None ≡ x → is_some x ≡ false
no_value x e = ap is_some (sym e)

pub has_given : (name : List ℕ) (names : List (List ℕ)) → has_name name (with_finalizer name names) ≡ true
has_given name names = by (has_name name names) refl
  where
    by : (b : Bool) → has_name name names ≡ b → has_name name (if b then names else names ++ name ∷ []) ≡ true
    by true e = e
    by false e = has_appended name names

user_start : (setup : Setup) (past : List Entry) (lacks : Bool) (default : Option (List ℕ)) (new : Object) (n : ℕ) (moment : List ℕ)
    → create_fault lacks new ≡ None → guard_on seats.User None new ≡ None → KindStart setup past (created_object default new n moment)
unfolding created_object admitted_object without_status with_meta
user_start setup past lacks default (Volume v) n moment fault g = created_volume setup past lacks default v n moment fault (λ r uid h. no_uid_given v r uid (passes None (Volume v) g) h)
user_start setup past lacks default (Claim c) n moment fault g =
    record { fresh = no_value (value_at bind_completed c.meta.annotations) (completion_same None (Claim c) (passes None (Claim c) g)); guarded = has_given pvc_protection c.meta.finalizers }
user_start setup past lacks default new n moment fault g = tt

-- the reference of a provisioned volume names a claim that was told
provisioned : (setup : Setup) (past mine : List Entry) → Known setup past mine → (v : VolumeData) → MayCreate mine v → (r : Ref) (uid : Uid)
    → Refers v r uid → WasNamed setup past r uid
unfolding provisioned_volume
provisioned setup past mine known v row r uid h =
    let t = known.told (λ x. x ≡ Claim row.claim) (newest_told mine _ (Claim row.claim) row.newest) in
    let was : Stood setup past (Claim row.claim) = subst (Stood setup past) t.2 t.1 in
    let e : ref_to row.claim ≡ r = same_Some _ _ (sym (ap (λ (x : VolumeData). x.claim_ref) row.object) ∙ h.is) in
    record { claim = row.claim; was = was; placed = ap (λ (z : Ref). z.namespace) e; named = ap (λ (z : Ref). z.name) e; its = ap (λ (z : Ref). z.uid) e ∙ h.known }

create_start : (setup : Setup) (past mine : List Entry) → Known setup past mine
    → (kind : SeatKind) (lacks : Bool) (default : Option (List ℕ)) (new : Object) (n : ℕ) (moment : List ℕ) → Licensed kind mine (requests.Create new)
    → create_fault lacks new ≡ None → guard_on kind None new ≡ None → KindStart setup past (created_object default new n moment)
create_start setup past mine known seats.User lacks default new n moment l fault g = user_start setup past lacks default new n moment fault g
create_start setup past mine known seats.Ops lacks default (Volume v) n moment l fault g = created_volume setup past lacks default v n moment fault (provisioned setup past mine known v l.1)
create_start setup past mine known seats.Ops lacks default new n moment l fault g = absurd l.1
create_start setup past mine known kind lacks default new n moment l fault g = absurd l.1

create_made : (setup : Setup) (past mine : List Entry) → (world setup past).store.version + 1 < most_serials → Known setup past mine
    → (kind : SeatKind) (new o : Object) → Licensed kind mine (requests.Create new)
    → IsCreate (world setup past).store kind (world setup past).moment new o → Made setup past o
create_made setup past mine room known kind new o l c = inl (record {
  room = room;
  first = created_first (world setup past).store kind (world setup past).moment new o c;
  start = subst (KindStart setup past) (sym c.is) (create_start setup past mine known kind _ _ new _ _ l c.fault c.guard);
})

-- no controller edits
edit_made : (setup : Setup) (past mine : List Entry) → Invariant setup past → (kind : SeatKind) (key : Key) (change : Edit) (o : Object)
    → Licensed kind mine (requests.Edit key change) → IsEdit (world setup past).store kind o → Made setup past o
edit_made setup past mine inv seats.User key change o l f = edited_made setup past inv f.new o f.update
edit_made setup past mine inv kind key change o l f = absurd l.1

-- each write of an allowed request is one that any run may make
pub made : (setup : Setup) (past mine : List Entry) → (world setup past).store.version + 1 < most_serials → Invariant setup past
    → Known setup past mine → (kind : SeatKind) (request : Request) → Licensed kind mine request → (o : Object)
    → Writes (world setup past) kind request o → Made setup past o
made setup past mine room inv known kind (requests.Create new) l o f = create_made setup past mine room known kind new o l f
made setup past mine room inv known kind (requests.Update new given) l o f = update_made setup past mine inv known kind new given o l f
made setup past mine room inv known kind (requests.UpdateStatus key status given) l o f = status_made setup past mine inv known kind key status given o l f
made setup past mine room inv known kind (requests.Edit key change) l o f = edit_made setup past mine inv kind key change o l f
made setup past mine room inv known kind (requests.Delete key given) l o f = mark_made setup past inv key given o f
made setup past mine room inv known kind (requests.BindPod key uid node) l o f =
    inr (record {
      old = Pod f.pod;
      next = bound_next (world setup past).store kind key uid node o f;
      step =
          subst (KindStep setup past (Pod f.pod)) (sym f.is) (bind_step_pod setup past f.pod node _ f.unscheduled);
    })
made setup past mine room inv known kind (requests.FinishPod key uid node epoch) l o f =
    inr (record {
      old = Pod f.pod;
      next = finished_next (world setup past).store kind key uid node _ o f;
      step =
          subst (KindStep setup past (Pod f.pod)) (sym f.is) (finish_step_pod setup past f.pod _);
    })
made setup past mine room inv known kind request l o f = absurd f
