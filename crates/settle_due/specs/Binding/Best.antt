-- Which volume the binder takes for a claim: one that a user gave to the claim goes before any other.
-- Source: the volume index of `pv_controller.go`, as in the definition of the best volume.
use Rattle.std.specs.Prelude.{ℕ, ◌≡◌, Bool, true, List, [], None}
use Rattle.kube_objects.specs.declared.objects.Claim.{Claim as ClaimData}
use Rattle.kube_objects.specs.declared.objects.Volume.{Volume as VolumeData}
use Rattle.kube_objects.specs.declared.objects.Object.{Object}
use Rattle.kube_objects.specs.declared.objects.Object.TheVariants.{Volume}
use Rattle.kube_objects.specs.Bindings.{is_for}
use Rattle.binder_model.specs.Matching.{IsBestAt, eligible}
use Rattle.binder_model.specs.Told.{SomeOf}

-- the best volume of a claim is for the claim where any is
abbrev pub BestIsOwn : Type 0
BestIsOwn =
    (rows : List Object) (c : ClaimData) (only_own : Bool) (place : ℕ) (best : IsBestAt rows c None only_own [] place) (u : VolumeData) → SomeOf (λ o. o ≡ Volume u) rows
    → eligible u c None ≡ true → is_for u c ≡ true → is_for best.volume c ≡ true
