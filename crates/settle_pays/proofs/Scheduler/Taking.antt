-- The write that takes a volume for a claim: what it comes to, and which claims are carried then.
use Rattle.std.proofs.Common.{◌≡◌, ◌≢◌, ◌∙◌, ℕ, ◌+◌, List, Bool, true, false, true≢false, Some, None, inl, inr, refl, sym, ap, subst, arith}
use Rattle.std.specs.Prelude.{◌==◌, ◌&&◌, bytes_eq, is_none, not}
use Rattle.std.proofs.lemmas.Bool.{and_parts, and_right}
use Rattle.std.proofs.lemmas.Bool.Decides.{nat_tests}
use Rattle.std.proofs.lemmas.Slice.Eq.{bytes_eq-Decides}
use Rattle.kube_parts.specs.declared.parts.Kind.TheVariants as kinds
use Rattle.kube_objects.specs.declared.objects.Claim.{Claim as ClaimData}
use Rattle.kube_objects.specs.declared.objects.Volume.{Volume as VolumeData}
use Rattle.kube_objects.specs.declared.objects.Object.{Object}
use Rattle.kube_objects.specs.declared.objects.Object.TheVariants.{Claim, Volume}
use Rattle.kube_objects.specs.Bindings.{bound_by_controller, carries, is_deleting, names_claim, refers_carrying, uid_carries}
use Rattle.kube_objects.specs.Keys.{AreRows, key_of, meta_of, put_row, row_at}
use Rattle.kube_objects.proofs.KeyOrder.{row_at-put_row, row_at-put_row_other}
use Rattle.kube_objects.proofs.SameKeys.{key_tells}
use Rattle.call_types.specs.declared.reply.Change.TheVariants.{Modified}
use Rattle.call_types.specs.declared.request.Request.TheVariants.{Update}
use Rattle.call_types.specs.declared.request.SeatKind.TheVariants as seats
use Rattle.call_types.specs.declared.setup.Setup.{Setup}
use Rattle.binder_model.specs.Answers.{Stores, guard_on, is_other_version, outcome, refuse, refuse_field, refuse_rule, update, write_of, write_outcome}
use Rattle.binder_model.specs.BindWrites.{annotated_meta_if, ref_to, taken_for, write_reference}
use Rattle.binder_model.specs.Choice.{carries_claim, has_carrier}
use Rattle.binder_model.specs.Devices.{device_answer}
use Rattle.binder_model.specs.Fields.{update_fault}
use Rattle.binder_model.specs.Store.{has_no_names, leaves, updated_object, with_meta, with_status_of}
use Rattle.binder_model.specs.World.{OnStore, World, effect, on_devices}
use Rattle.model_laws.proofs.Lists.{one}
use Rattle.model_laws.proofs.Readings.{found_stands, member_stands}
use Rattle.settle_measure.proofs.Left.Others.{any_found, any_in}
use Rattle.settle_writes.specs.Writes.Valid.{IsValid}
use Rattle.settle_writes.specs.Writes.Writes.{IsStored}
use Rattle.settle_writes.proofs.Writes.Fitting.{adds_none, refers_well, volume_facts, volume_fits}

same_version : (n : ℕ) → is_other_version (Some n) n ≡ false
same_version n = let e : (n == n) ≡ true = grind (arith, nat_tests) in ap not e

-- an update whose fields fit is made
update_comes : (setup : Setup) (w : World) (old new : Object) → row_at (key_of new) w.store.rows ≡ Some old → update_fault old new ≡ None
    → effect setup w seats.Scheduler (Update new (Some (meta_of old).version)) ≡ OnStore (write_outcome (updated_object old new (w.store.version + 1)))
unfolding effect on_devices device_answer outcome update refuse refuse_rule refuse_field guard_on
update_comes setup w old new there fits = rw (there, same_version (meta_of old).version, fits) refl

-- the volume as it is once it is taken for the claim
pub record IsTaken (setup : Setup) (w : World) (v : VolumeData) (c : ClaimData) : Type 0 where
  pub new : VolumeData
  pub is : effect setup w seats.Scheduler (write_reference v c) ≡ OnStore (Stores Modified (Volume new))
  pub refers : new.claim_ref ≡ Some (ref_to c)
  pub key : key_of (Volume new) ≡ key_of (Volume v)

module _ (setup : Setup) (w : World) (v : VolumeData) (c : ClaimData) (s : IsStored w (Volume v)) (valid : IsValid (Claim c)) (staying : is_deleting v.meta ≡ false) where
  abbrev new_for : Bool → VolumeData
  new_for b = record v { claim_ref = Some (ref_to c); meta = annotated_meta_if b bound_by_controller v.meta }

  fits : (b : Bool) → update_fault (Volume v) (Volume (new_for b)) ≡ None
  fits true = volume_fits v (annotated_meta_if true bound_by_controller v.meta) (Some (ref_to c)) s.valid refl refl (refers_well c valid)
      (volume_facts v s.valid).once (and_right (is_deleting v.meta) _ (adds_none v.meta.finalizers))
  fits false = volume_fits v v.meta (Some (ref_to c)) s.valid refl refl (refers_well c valid) (volume_facts v s.valid).once (and_right (is_deleting v.meta) _ (adds_none v.meta.finalizers))

  stays : (b : Bool) → leaves (updated_object (Volume v) (Volume (new_for b)) (w.store.version + 1)) ≡ false
  unfolding leaves updated_object with_meta with_status_of
  stays true = ap (λ x. x && has_no_names v.meta.finalizers) staying
  stays false = ap (λ x. x && has_no_names v.meta.finalizers) staying

  comes : (b : Bool) → effect setup w seats.Scheduler (Update (Volume (new_for b)) (Some v.meta.version)) ≡ OnStore
      (Stores Modified (updated_object (Volume v) (Volume (new_for b)) (w.store.version + 1)))
  comes true = update_comes setup w (Volume v) (Volume (new_for true)) s.there (fits true)
      ∙ ap (λ x. OnStore (write_of (updated_object (Volume v) (Volume (new_for true)) (w.store.version + 1)) x)) (stays true)
  comes false = update_comes setup w (Volume v) (Volume (new_for false)) s.there (fits false)
      ∙ ap (λ x. OnStore (write_of (updated_object (Volume v) (Volume (new_for false)) (w.store.version + 1)) x)) (stays false)

  pub is_taken : IsTaken setup w v c
  unfolding taken_for updated_object with_meta with_status_of
  is_taken = by (is_none v.claim_ref) refl
    where
      by : (b : Bool) → is_none v.claim_ref ≡ b → IsTaken setup w v c
      by true e = record {
        new = _;
        is = subst (λ b. effect setup w seats.Scheduler (Update (Volume (new_for b)) (Some v.meta.version)) ≡ OnStore
            (Stores Modified (updated_object (Volume v) (Volume (new_for true)) (w.store.version + 1)))) (sym e) (comes true);
        refers = refl;
        key = refl;
      }
      by false e = record {
        new = _;
        is = subst (λ b. effect setup w seats.Scheduler (Update (Volume (new_for b)) (Some v.meta.version)) ≡ OnStore
            (Stores Modified (updated_object (Volume v) (Volume (new_for false)) (w.store.version + 1)))) (sym e) (comes false);
        refers = refl;
        key = refl;
      }

-- a volume that refers to one claim carries no other
carries_no_other : (v : VolumeData) (c d : ClaimData) → v.claim_ref ≡ Some (ref_to c) → key_of (Claim c) ≢ key_of (Claim d) → carries v d ≡ false
carries_no_other v c d refers differs = by (names_claim (ref_to c) d) refl
  where
    by : (b : Bool) → names_claim (ref_to c) d ≡ b → carries v d ≡ false
    by true e =
        let names = and_parts (bytes_eq c.meta.namespace d.meta.namespace) (bytes_eq c.meta.name d.meta.name) e in
        let spaces = (bytes_eq-Decides c.meta.namespace d.meta.namespace).0 names.0 in
        let own = (bytes_eq-Decides c.meta.name d.meta.name).0 names.1 in
        absurd (differs (λ i. record { kind = kinds.PersistentVolumeClaim; namespace = spaces i; name = own i }))
    by false e = ap (λ r. refers_carrying r d) refers ∙ ap (λ b. b && uid_carries c.meta.uid d) e

-- so a claim that no volume carries is carried by none once a volume is taken for another
pub still_uncarried : (rows : List Object) (v : VolumeData) (c d : ClaimData) → AreRows (put_row (Volume v) rows) → v.claim_ref ≡ Some (ref_to c)
    → key_of (Claim c) ≢ key_of (Claim d) → has_carrier rows d ≡ false → has_carrier (put_row (Volume v) rows) d ≡ false
still_uncarried rows v c d order refers differs none = by (has_carrier (put_row (Volume v) rows) d) refl
  where
    by : (b : Bool) → has_carrier (put_row (Volume v) rows) d ≡ b → has_carrier (put_row (Volume v) rows) d ≡ false
    by false e = e
    by true e =
        let found = any_found (carries_claim d) (put_row (Volume v) rows) e in
        let x = found.object in
        let there = member_stands x (put_row (Volume v) rows) order found.among in
        elim (key_tells (key_of (Volume v)) (key_of x)) [
          | inl same ↦
              let is : Volume v ≡ x = one (Volume v) x (sym (row_at-put_row (Volume v) rows) ∙ (ap (λ k. row_at k (put_row (Volume v) rows)) same ∙ there)) in
              absurd (true≢false (sym (ap (carries_claim d) is ∙ found.passes) ∙ carries_no_other v c d refers differs))
          | inr other ↦
              let before = found_stands (key_of x) x rows (sym (row_at-put_row_other (key_of x) (Volume v) rows other) ∙ there) in
              absurd (true≢false (sym (any_in (carries_claim d) x rows before found.passes) ∙ none))
        ]
