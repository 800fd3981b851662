-- Each write of a volume as it stands is done, and lasts.
use Rattle.std.proofs.Common.{◌≡◌, ◌≢◌, ◌∙◌, ◌+◌, [], ◌∷◌, ◌++◌, Bool, true, false, true≢false, Option, Some, None, inl, refl, sym, ap, arith}
use Rattle.std.proofs.lemmas.Bool.Decides.{nat_tests}
use Rattle.std.specs.Prelude.{◌&&◌, ◌||◌, is_none}
use Rattle.std.proofs.lemmas.Bool.{and_right}
use Rattle.kube_parts.specs.declared.uid.Uid.{Uid}
use Rattle.kube_parts.specs.declared.names.Due.{Due}
use Rattle.kube_parts.specs.declared.names.Due.TheVariants as dues
use Rattle.kube_parts.specs.declared.parts.VolumePhase.{VolumePhase}
use Rattle.kube_objects.specs.declared.objects.Meta.{Meta}
use Rattle.kube_objects.specs.declared.objects.Ref.{Ref}
use Rattle.kube_objects.specs.declared.objects.Claim.{Claim as ClaimData}
use Rattle.kube_objects.specs.declared.objects.Volume.{Volume as VolumeData}
use Rattle.kube_objects.specs.declared.objects.Object.{Object}
use Rattle.kube_objects.specs.declared.objects.Object.TheVariants.{Volume}
use Rattle.kube_objects.specs.Bindings.{bound_by_controller, carries, has_key, has_name, is_bound, is_deleting, is_protected_volume, is_uid, pv_protection, ref_uid}
use Rattle.kube_objects.specs.Keys.{key_of, meta_of, row_at}
use Rattle.call_types.specs.declared.request.NewStatus.TheVariants as statuses
use Rattle.call_types.specs.declared.request.SeatKind.{SeatKind}
use Rattle.call_types.specs.declared.setup.Setup.{Setup}
use Rattle.plain_data.specs.Pairs.{without_key}
use Rattle.binder_model.specs.Answers.{delete, delete_of, is_user, outcome, refuse, with_status}
use Rattle.binder_model.specs.BindWrites.{annotated_meta_if, ref_to, taken_for, unbound_volume, without_uid}
use Rattle.binder_model.specs.Devices.{device_answer}
use Rattle.binder_model.specs.Due.{guard_due}
use Rattle.binder_model.specs.Fields.{adds_finalizer, has_twice, is_nameless}
use Rattle.binder_model.specs.GuardLicence.{guarded_meta, unguarded_meta}
use Rattle.binder_model.specs.ObjectKeys.{volume_key}
use Rattle.binder_model.specs.Store.{at_version, leaves_at_once, marked_object, updated_object, with_meta, with_status_of}
use Rattle.binder_model.specs.World.{World, effect, on_devices, reply_to}
use Rattle.settle_writes.specs.Writes.Lasting.{Lasts, content_of}
use Rattle.settle_writes.specs.Writes.Writes.{DeleteLasts, IsStored, PhaseLasts, ReferenceLasts, UnbindLasts, VolumeGuardLasts, VolumeUnguardLasts, update_volume, write_phase}
use Rattle.settle_writes.proofs.Writes.Fitting.{adds_none, drops_add_none, drops_once, no_namespace, refers_well, volume_facts, volume_fits}
use Rattle.settle_writes.proofs.Writes.Making.{status_lasts, update_lasts, written_lasts}
use Rattle.settle_writes.proofs.Writes.Valid.{twice_last}
use Rattle.model_laws.proofs.References.{refers_to as taken_carries}
use Rattle.model_laws.proofs.FinalizerNames.{without_lacks as dropped}
use Rattle.model_laws.proofs.FinalizerNames.{has_appended as last_there}

abbrev volume_in : VolumeData → Object → VolumeData
volume_in v (Volume x) = x
volume_in v o = v

module _ (setup : Setup) (w : World) (kind : SeatKind) (controller : is_user kind ≡ false) (v : VolumeData) (s : IsStored w (Volume v)) where
  own_key : key_of (Volume v) ≡ volume_key v.meta.name
  own_key = rw (no_namespace v s.valid) refl

  -- an update of metadata and reference alone
  updates : (m : Meta) (r : Option Ref) → m.name ≡ v.meta.name → m.namespace ≡ v.meta.namespace → is_nameless r ≡ false → has_twice m.finalizers ≡ false
      → (is_deleting v.meta && adds_finalizer v.meta.finalizers m.finalizers) ≡ false
      → content_of (Volume v) ≢ content_of (updated_object (Volume v) (Volume (record v { meta = m; claim_ref = r })) (w.store.version + 1))
      → Lasts setup w kind (update_volume v (record v { meta = m; claim_ref = r }))
  unfolding updated_object with_meta with_status_of
  updates m r named placed refers once adds differs =
      let key : key_of (Volume (record v { meta = m; claim_ref = r })) ≡ key_of (Volume v) = rw (named, placed) refl in
      update_lasts setup w kind controller (Volume v) (Volume (record v { meta = m; claim_ref = r })) (ap (λ k. row_at k w.store.rows) key ∙ s.there)
      (volume_fits v m r s.valid named placed refers once adds) refl differs

  phase_is : (phase : VolumePhase) → v.phase ≢ phase → Lasts setup w kind (write_phase v phase)
  unfolding with_status at_version with_meta
  phase_is phase differs =
      status_lasts setup w kind controller (Volume v) (volume_key v.meta.name) (statuses.Volume phase) (Volume (record v { phase = phase }))
      (ap (λ k. row_at k w.store.rows) (sym own_key) ∙ s.there) refl own_key
      (λ e. differs (ap (λ o. (volume_in v o).phase) e))

pub phase_lasts : PhaseLasts
phase_lasts setup w kind v phase controller s differs = phase_is setup w kind controller v s phase differs

-- protection

record Lacks (v : VolumeData) : Type 0 where
  staying : is_deleting v.meta ≡ false
  unguarded : is_protected_volume v ≡ false

abbrev is_guard : Option Due → Bool
is_guard (Some dues.Guard) = true
is_guard x = false

pub guard_lacks : (a b c : Bool) → guard_due a b c ≡ Some dues.Guard → (a ≡ false) × (b ≡ false)
guard_lacks false false c g = (refl, refl)
guard_lacks true true false g = absurd (true≢false (sym (ap is_guard g)))
guard_lacks true true true g = absurd (true≢false (sym (ap is_guard g)))
guard_lacks true false c g = absurd (true≢false (sym (ap is_guard g)))
guard_lacks false true c g = absurd (true≢false (sym (ap is_guard g)))

abbrev is_unguard : Option Due → Bool
is_unguard (Some dues.Unguard) = true
is_unguard x = false

pub unguard_has : (a b c : Bool) → guard_due a b c ≡ Some dues.Unguard → (a ≡ true) × (b ≡ true)
unguard_has true true false g = (refl, refl)
unguard_has true true true g = absurd (true≢false (sym (ap is_unguard g)))
unguard_has true false c g = absurd (true≢false (sym (ap is_unguard g)))
unguard_has false true c g = absurd (true≢false (sym (ap is_unguard g)))
unguard_has false false c g = absurd (true≢false (sym (ap is_unguard g)))

or_true : (b : Bool) → (b || true) ≡ true
or_true true = refl
or_true false = refl

pub volume_guard_lasts : VolumeGuardLasts
unfolding updated_object with_meta with_status_of
volume_guard_lasts setup w kind v controller s due =
    let l = guard_lacks (is_deleting v.meta) (is_protected_volume v) (is_bound v.phase) due in
    updates setup w kind controller v s (guarded_meta pv_protection v.meta) v.claim_ref refl refl (volume_facts v s.valid).refers
    (twice_last pv_protection v.meta.finalizers l.1 ∙ (volume_facts v s.valid).once)
    (ap (λ b. b && adds_finalizer v.meta.finalizers (v.meta.finalizers ++ pv_protection ∷ [])) l.0)
    (λ e. true≢false (sym (ap (λ (o : Object). has_name pv_protection (meta_of o).finalizers) e ∙ last_there pv_protection v.meta.finalizers) ∙ l.1))

pub volume_unguard_lasts : VolumeUnguardLasts
unfolding updated_object with_meta with_status_of
volume_unguard_lasts setup w kind v controller s due =
    let l = unguard_has (is_deleting v.meta) (is_protected_volume v) (is_bound v.phase) due in
    updates setup w kind controller v s (unguarded_meta pv_protection v.meta) v.claim_ref refl refl (volume_facts v s.valid).refers
    (drops_once pv_protection v.meta.finalizers (volume_facts v s.valid).once)
    (and_right (is_deleting v.meta) _ (drops_add_none pv_protection v.meta.finalizers))
    (λ e. true≢false (sym l.1 ∙ ap (λ (o : Object). has_name pv_protection (meta_of o).finalizers) e ∙ dropped pv_protection v.meta.finalizers))

-- unbinding

abbrev ref_in : Object → Option Uid
ref_in (Volume v) = ref_uid v.claim_ref
ref_in o = None

abbrev is_there : Option Uid → Bool
is_there None = false
is_there (Some uid) = true

-- the reference loses its UID
without_is_nameless : (r : Option Ref) → is_nameless (without_uid r) ≡ is_nameless r
without_is_nameless None = refl
without_is_nameless (Some r) = refl

without_has_none : (r : Option Ref) → ref_uid (without_uid r) ≡ None
without_has_none None = refl
without_has_none (Some r) = refl

module _ (setup : Setup) (w : World) (kind : SeatKind) (controller : is_user kind ≡ false) (v : VolumeData) (s : IsStored w (Volume v)) (uid : Uid) (refers : ref_uid v.claim_ref ≡ Some uid) where
  gone : (x : Option Uid) → ref_uid v.claim_ref ≡ x → x ≡ None → ⊥
  gone x e none = true≢false (ap is_there (sym refers ∙ e ∙ none))

  pub unbind_is : (b : Bool) → has_key bound_by_controller v.meta.annotations ≡ b → Lasts setup w kind (update_volume v (unbound_volume v))
  unfolding unbound_volume updated_object with_meta with_status_of
  unbind_is true e = rw e (updates setup w kind controller v s (record v.meta { annotations = without_key bound_by_controller v.meta.annotations }) None refl refl refl (volume_facts v s.valid).once
      (and_right (is_deleting v.meta) _ (adds_none v.meta.finalizers)) (λ same. gone None (ap ref_in same) refl))
  unbind_is false e = rw e (updates setup w kind controller v s v.meta (without_uid v.claim_ref) refl refl
      (without_is_nameless v.claim_ref ∙ (volume_facts v s.valid).refers) (volume_facts v s.valid).once
      (and_right (is_deleting v.meta) _ (adds_none v.meta.finalizers)) (λ same. gone (ref_uid (without_uid v.claim_ref)) (ap ref_in same) (without_has_none v.claim_ref)))

pub unbind_lasts : UnbindLasts
unbind_lasts setup w kind v uid controller s refers = unbind_is setup w kind controller v s uid refers (has_key bound_by_controller v.meta.annotations) refl

-- the first write of a binding

abbrev carries_in : ClaimData → Object → Bool
carries_in c (Volume v) = carries v c
carries_in c o = false

uid_itself : (u : Uid) → is_uid (Some u) u ≡ true
uid_itself u = grind (arith, nat_tests)

pub reference_lasts : ReferenceLasts
unfolding taken_for updated_object with_meta with_status_of
reference_lasts setup w kind v c uid controller s valid has free = by (is_none v.claim_ref)
  where
    by : (b : Bool) → Lasts setup w kind (update_volume v (record v { claim_ref = Some (ref_to c); meta = annotated_meta_if b bound_by_controller v.meta }))
    by true = updates setup w kind controller v s (annotated_meta_if true bound_by_controller v.meta) (Some (ref_to c)) refl refl (refers_well c valid) (volume_facts v s.valid).once
        (and_right (is_deleting v.meta) _ (adds_none v.meta.finalizers)) (λ same. true≢false (sym (ap (carries_in c) same ∙ taken_carries c uid has) ∙ free))
    by false = updates setup w kind controller v s v.meta (Some (ref_to c)) refl refl (refers_well c valid) (volume_facts v s.valid).once
        (and_right (is_deleting v.meta) _ (adds_none v.meta.finalizers)) (λ same. true≢false (sym (ap (carries_in c) same ∙ taken_carries c uid has) ∙ free))

-- the deletion

abbrev is_marked : Object → Bool
is_marked o = is_deleting (meta_of o)

pub delete_lasts : DeleteLasts
unfolding effect on_devices device_answer outcome reply_to delete delete_of refuse leaves_at_once marked_object with_meta
delete_lasts setup w kind v given controller s staying same =
    let key = own_key setup w kind controller v s in
    let there : row_at (volume_key v.meta.name) w.store.rows ≡ Some (Volume v) = ap (λ k. row_at k w.store.rows) (sym key) ∙ s.there in
    rw (there, same, staying) (inl (written_lasts w.store.rows (Volume v) (marked_object (Volume v) (w.store.version + 1) w.moment) s.there (λ e. true≢false (sym (ap is_marked e) ∙ staying))))
