-- Volumes that are found by an index, and those that are passed over. A choice of this project.
use Rattle.std.specs.Prelude.{ℕ, ◌≡◌, Bool, true, List, Option, Some, None, IfSome, slice_get}
use Rattle.kube_parts.specs.declared.parts.Kind.TheVariants as kinds
use Rattle.kube_objects.specs.declared.objects.Claim.{Claim as ClaimData}
use Rattle.kube_objects.specs.declared.objects.Volume.{Volume as VolumeData}
use Rattle.kube_objects.specs.declared.objects.Object.{Object}
use Rattle.kube_objects.specs.declared.objects.Object.TheVariants.{Volume}
use Rattle.kube_objects.specs.Keys.{rows_of}
use Rattle.binder_model.specs.Matching.{is_excluded}
use Rattle.volume_match.specs.declared.indexed.Found.{Found}
use Rattle.volume_match.specs.Steps.Choices.{ref_is_to}

-- the volume refers to the claim by its namespace and name
abbrev pub refers_to_claim : ClaimData → VolumeData → Bool
refers_to_claim c v = ref_is_to c v.claim_ref

-- the place of the volume that was found
abbrev pub found_place : Option Found → Option ℕ
found_place None = None
found_place (Some found) = Some found.place

-- the volume at this place among the free ones stands at that place among the volumes
abbrev pub StandsAt : List Object → List VolumeData → ℕ → ℕ → Type 0
StandsAt rows free i place = (v : VolumeData) → slice_get free i ≡ Some v → slice_get (rows_of kinds.PersistentVolume rows) place ≡ Some (Volume v)

-- where the volume was found among the free ones, it stands at both places
abbrev pub IsFoundThere : List Object → List VolumeData → Option Found → Type 0
IsFoundThere rows free found = IfSome found (λ one. IfSome one.free (λ i. StandsAt rows free i one.place))

-- a volume whose place among the free ones is passed stands at no place among the volumes that is not excluded
abbrev pub PassedAreExcluded : List Object → List VolumeData → List ℕ → List ℕ → Type 0
PassedAreExcluded rows free passed excluded =
    (i place : ℕ) (v : VolumeData) → is_excluded passed i ≡ true → slice_get free i ≡ Some v
    → slice_get (rows_of kinds.PersistentVolume rows) place ≡ Some (Volume v) → is_excluded excluded place ≡ true
