-- An object of a version that a page tells, as the volume or the claim that it is.
use Rattle.std.proofs.Common.{◌≡◌, ℕ, List, Option, Some, None, refl, sym, ◌∙◌, subst}
use Rattle.std.specs.Prelude.{MatchOption}
use Rattle.std.specs.Borrow.{Bor}
use Rattle.kube_objects.specs.declared.objects.Claim.{Claim as ClaimData}
use Rattle.kube_objects.specs.declared.objects.Volume.{Volume as VolumeData}
use Rattle.kube_objects.specs.declared.objects.Object.{Object}
use Rattle.kube_objects.specs.declared.objects.Object.TheVariants.{Class, Node, Volume, Claim, Pod}
use Rattle.call_types.specs.declared.entry.Entry.{Entry}
use Rattle.binder_model.specs.Told.{IsClaimWith, IsVolumeWith, ToldClaim, ToldVolume}
use Rattle.model_laws.proofs.Evidence.{told_map}
use Rattle.licence_scans.specs.Found.{IsToldFound}

pub volume_found : (given : Option ℕ) (o : Object) (small : List Entry) (r : Option (Bor VolumeData)) → MatchOption r ((volume : VolumeData) → o ≡ Volume volume → ⊥) (λ volume. o ≡ Volume volume.now)
    → IsToldFound (IsVolumeWith (λ x. given ≡ Some x.meta.version)) small o
    → MatchOption r (ToldVolume (λ x. given ≡ Some x.meta.version) small → ⊥) (λ volume. (given ≡ Some volume.now.meta.version) × ToldVolume (λ x. x ≡ volume.now) small)
volume_found given (Volume x) small None is found = absurd (is x refl)
volume_found given (Class x) small None is found = absurd found.holds
volume_found given (Node x) small None is found = absurd found.holds
volume_found given (Claim x) small None is found = absurd found.holds
volume_found given (Pod x) small None is found = absurd found.holds
volume_found given o small (Some x) is found = (
  subst (IsVolumeWith (λ y. given ≡ Some y.meta.version)) is found.holds,
  told_map {P = λ y. y ≡ o} {Q = IsVolumeWith (λ y. y ≡ x.now)} (λ y same. subst (IsVolumeWith (λ z. z ≡ x.now)) (sym (same ∙ is)) refl) small found.told,
)

pub claim_found : (given : Option ℕ) (o : Object) (small : List Entry) (r : Option (Bor ClaimData)) → MatchOption r ((claim : ClaimData) → o ≡ Claim claim → ⊥) (λ claim. o ≡ Claim claim.now)
    → IsToldFound (IsClaimWith (λ x. given ≡ Some x.meta.version)) small o
    → MatchOption r (ToldClaim (λ x. given ≡ Some x.meta.version) small → ⊥) (λ claim. (given ≡ Some claim.now.meta.version) × ToldClaim (λ x. x ≡ claim.now) small)
claim_found given (Claim x) small None is found = absurd (is x refl)
claim_found given (Class x) small None is found = absurd found.holds
claim_found given (Node x) small None is found = absurd found.holds
claim_found given (Volume x) small None is found = absurd found.holds
claim_found given (Pod x) small None is found = absurd found.holds
claim_found given o small (Some x) is found = (
  subst (IsClaimWith (λ y. given ≡ Some y.meta.version)) is found.holds,
  told_map {P = λ y. y ≡ o} {Q = IsClaimWith (λ y. y ≡ x.now)} (λ y same. subst (IsClaimWith (λ z. z ≡ x.now)) (sym (same ∙ is)) refl) small found.told,
)
