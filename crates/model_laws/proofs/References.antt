-- A volume that carries a claim is for it; a reference to a claim carries it; an Available volume has not ended.
use Rattle.std.proofs.Common.{◌≡◌, ◌≢◌, ◌∙◌, Bool, true, false, true≢false, Option, Some, None, refl, sym, ap, arith}
use Rattle.std.specs.Prelude.{◌==◌, ◌&&◌, bytes_eq, not}
use Rattle.std.proofs.lemmas.Bool.Decides.{nat_tests}
use Rattle.std.proofs.lemmas.Slice.Eq.{bytes_eq-Decides}
use Rattle.kube_parts.specs.declared.uid.Uid.{Uid}
use Rattle.kube_objects.specs.declared.objects.Ref.{Ref}
use Rattle.kube_objects.specs.declared.objects.Claim.{Claim as ClaimData}
use Rattle.kube_objects.specs.declared.objects.Volume.{Volume as VolumeData}
use Rattle.kube_objects.specs.Bindings.{carries, is_available, is_ended, is_uid, names_claim, refers_carrying, refers_for, uid_carries, uid_fits}
use Rattle.binder_model.specs.BindWrites.{ref_to}
use Rattle.std.proofs.Common.{◌≡◌, ◌≢◌, ◌∙◌, Bool, true, false, true≢false, Option, Some, None, refl, sym, ap}
use Rattle.std.specs.Prelude.{◌&&◌, not}
use Rattle.kube_objects.specs.Bindings.{carries, is_ended, is_for, names_claim, refers_carrying, refers_for, uid_carries, uid_fits}
use Rattle.std.proofs.Common.{◌≡◌, ◌∙◌, Bool, true, false, true≢false, not, ◌&&◌, ◌==◌, Option, Some, None, refl, sym, ap, arith}
use Rattle.kube_parts.specs.declared.parts.VolumePhase.{VolumePhase}
use Rattle.kube_parts.specs.declared.parts.VolumePhase.TheVariants as phases
use Rattle.kube_objects.specs.Bindings.{carries, is_available, is_ended, is_for, names_claim, refers_carrying, refers_for, uid_carries, uid_fits}

pub refers_to : (c : ClaimData) (uid : Uid) → c.meta.uid ≡ Some uid → refers_carrying (Some (ref_to c)) c ≡ true
refers_to c uid known =
    let space = (bytes_eq-Decides c.meta.namespace c.meta.namespace).1 refl in
    let own = (bytes_eq-Decides c.meta.name c.meta.name).1 refl in
    let itself : (uid.0 == uid.0) ≡ true = grind (arith, nat_tests) in
    let same : uid_carries c.meta.uid c ≡ true = ap (λ u. uid_carries u c) known ∙ (ap (λ u. is_uid u uid) known ∙ itself) in
    rw (space, own, same) refl

pub carries_for : (v : VolumeData) (c : ClaimData) → carries v c ≡ true → is_for v c ≡ true
carries_for v c e = by v.claim_ref e
  where
    by_uid : (u : Option Uid) → (b : Bool) → (b && uid_carries u c) ≡ true → (b && uid_fits u c) ≡ true
    by_uid None true e = refl
    by_uid None false e = e
    by_uid (Some u) b e = e

    by : (r : Option Ref) → refers_carrying r c ≡ true → refers_for r c ≡ true
    by None e = e
    by (Some r) e = by_uid r.uid (names_claim r c) e

pub available_lives : (phase : VolumePhase) → is_available phase ≡ true → is_ended phase ≡ false
available_lives phases.Available e = refl
available_lives phases.Pending e = refl
available_lives phases.Bound e = refl
available_lives phases.Released e = absurd (true≢false (sym e))
available_lives phases.Failed e = absurd (true≢false (sym e))
