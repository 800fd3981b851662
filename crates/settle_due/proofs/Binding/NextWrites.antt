-- The next of the four writes of a binding, on a volume and a claim as they stand, lasts.
use Rattle.std.proofs.Common.{◌≡◌, ◌≢◌, ◌∙◌, ◌⊎◌, Bool, true, false, true≢false, Some, None, inl, inr, refl, sym, ap, subst, if◌then◌else◌}
use Rattle.std.specs.Prelude.{◌||◌, is_some, not}
use Rattle.kube_parts.specs.declared.uid.Uid.{Uid}
use Rattle.kube_parts.specs.declared.parts.VolumePhase.TheVariants as volumes
use Rattle.kube_objects.specs.declared.objects.Claim.{Claim as ClaimData}
use Rattle.kube_objects.specs.declared.objects.Volume.{Volume as VolumeData}
use Rattle.kube_objects.specs.declared.objects.Object.TheVariants.{Claim, Volume}
use Rattle.kube_objects.specs.Bindings.{carries, is_bound, is_completed, is_empty, is_ended, is_protected_volume}
use Rattle.call_types.specs.declared.request.Request.{Request}
use Rattle.call_types.specs.declared.request.SeatKind.{SeatKind}
use Rattle.call_types.specs.declared.setup.Setup.{Setup}
use Rattle.binder_model.specs.Answers.{is_user}
use Rattle.binder_model.specs.BindWrites.{claim_write, is_completed_with, next_write, shows_bound, write_bound, write_claim_status, write_completion, write_reference}
use Rattle.binder_model.specs.World.{World}
use Rattle.model_laws.proofs.Lists.{none_some, one}
use Rattle.settle_writes.specs.Writes.Lasting.{Lasts}
use Rattle.settle_writes.specs.Writes.Writes.{IsStored}
use Rattle.settle_writes.proofs.Writes.Claims.{completion_lasts, status_is_lasting}
use Rattle.settle_writes.proofs.Writes.Volumes.{phase_lasts, reference_lasts}

-- the claim is open, and names the volume or none; or it is completed with it
abbrev pub IsOpenTo : VolumeData → ClaimData → Type 0
IsOpenTo v c = ((is_completed c ≡ false) × ((is_empty c.volume_name ≡ true) ⊎ (c.volume_name ≡ v.meta.name))) ⊎ (is_completed_with c v ≡ true)

module _ (setup : Setup) (w : World) (kind : SeatKind) (controller : is_user kind ≡ false) (v : VolumeData) (c : ClaimData)
    (sv : IsStored w (Volume v)) (sc : IsStored w (Claim c)) (uid : Uid) (has : c.meta.uid ≡ Some uid) (open_to : IsOpenTo v c) where
  of_request : (given request : Request) → Some given ≡ Some request → Lasts setup w kind given → Lasts setup w kind request
  of_request given request e lasts = subst (Lasts setup w kind) (one given request e) lasts

  completes : is_completed_with c v ≡ false → IsOpenTo v c → Lasts setup w kind (write_completion v c)
  completes open_ (inl o) = completion_lasts setup w kind v c controller sc o.0 o.1
  completes open_ (inr done) = absurd (true≢false (sym done ∙ open_))

  pub next_lasts : (request : Request) → next_write v c ≡ Some request → Lasts setup w kind request
  unfolding next_write claim_write
  next_lasts request e = by (carries v c) (is_ended v.phase) (is_bound v.phase) (is_protected_volume v) (is_completed_with c v) (shows_bound c v) refl refl refl refl e
    where
      not_bound : is_bound v.phase ≡ false → v.phase ≢ volumes.Bound
      not_bound f is = true≢false (sym (ap is_bound is) ∙ f)

      by : (carrying ended bound guarded completed shown : Bool) → carries v c ≡ carrying → is_bound v.phase ≡ bound → is_completed_with c v ≡ completed → shows_bound c v ≡ shown
          → (if not carrying then (if ended then None else Some (write_reference v c)) else if not bound then
          (if ended || not guarded then None else Some (write_bound v)) else if not completed then Some
          (write_completion v c) else if not shown then Some (write_claim_status v c) else None) ≡ Some request
          → Lasts setup w kind request
      by false true bound guarded completed shown ec eb ed es n = none_some n
      by false false bound guarded completed shown ec eb ed es n = of_request _ request n (reference_lasts setup w kind v c uid controller sv sc.valid has ec)
      by true true false guarded completed shown ec eb ed es n = none_some n
      by true false false false completed shown ec eb ed es n = none_some n
      by true false false true completed shown ec eb ed es n = of_request _ request n (phase_lasts setup w kind v volumes.Bound controller sv (not_bound eb))
      by true ended true guarded false shown ec eb ed es n = of_request _ request n (completes ed open_to)
      by true ended true guarded true false ec eb ed es n = of_request _ request n (status_is_lasting setup w kind v c controller sc es)
      by true ended true guarded true true ec eb ed es n = none_some n

-- there is one, where the claim is not completed and the volume stays open to it
pub next_some : (v : VolumeData) (c : ClaimData) → is_ended v.phase ≡ false → is_protected_volume v ≡ true → is_completed_with c v ≡ false → is_some (next_write v c) ≡ true
unfolding next_write claim_write
next_some v c open_ guarded incomplete = by (carries v c) (is_bound v.phase)
  where
    by : (carrying bound : Bool)
        → is_some (if not carrying then (if is_ended v.phase then None else Some (write_reference v c)) else if not bound then
        (if is_ended v.phase || not (is_protected_volume v) then None else Some (write_bound v))
        else if not (is_completed_with c v) then Some (write_completion v c) else if not (shows_bound c v) then Some (write_claim_status v c) else None) ≡ true
    by false bound = rw open_ refl
    by true false = rw (open_, guarded) refl
    by true true = rw incomplete refl
