-- The best of the volumes of one list of an index. A choice of this project.
use Rattle.std.specs.Prelude.{ℕ, ◌≡◌, ◌≢◌, Bool, true, false, ◌&&◌, List, Option, Some, None, bytes_eq}
use Rattle.std.specs.Bool.{beq}
use Rattle.std.specs.List.{Contains}
use Rattle.std.specs.declared.cmp.Ordering.TheVariants.{Greater}
use Rattle.kube_objects.specs.declared.objects.Node.{Node as NodeData}
use Rattle.kube_objects.specs.declared.objects.Ref.{Ref}
use Rattle.kube_objects.specs.declared.objects.Volume.{Volume as VolumeData}
use Rattle.kube_objects.specs.declared.objects.Claim.{Claim as ClaimData}
use Rattle.kube_objects.specs.declared.objects.Object.{Object}
use Rattle.kube_objects.specs.Bindings.{class_of_claim, class_of_volume, names_claim}
use Rattle.binder_model.specs.Matching.{IsCandidate, eligible, match_cmp}
use Rattle.volume_index.specs.VolumeOrders.{Owner, Size}

-- these are volumes that pass the test
abbrev pub AreOf : (VolumeData → Bool) → List VolumeData → List VolumeData → Type 0
AreOf test volumes those = (v : VolumeData) → Contains those v → Contains volumes v × (test v ≡ true)

-- a volume of the list that stands at this place, and before which no other candidate of the list stands
pub record IsBestOfAt (rows : List Object) (c : ClaimData) (node : Option NodeData) (only_own : Bool) (excluded : List ℕ) (those : List VolumeData) (place : ℕ) : Type 0 where
  pub volume : VolumeData
  pub held : Contains those volume
  pub candidate : IsCandidate rows c node only_own excluded place volume
  pub first : (u : VolumeData) → Contains those u → (other : ℕ) → IsCandidate rows c node only_own excluded other u → match_cmp c volume u ≢ Greater

-- no volume of the list can be taken at any place
abbrev pub HasNone : List Object → ClaimData → Option NodeData → Bool → List ℕ → List VolumeData → Type 0
HasNone rows c node only_own excluded those = (u : VolumeData) → Contains those u → (place : ℕ) → IsCandidate rows c node only_own excluded place u → ⊥

-- the place of the best candidate of the list, or none where it has no candidate
abbrev pub IsBestOf : List Object → ClaimData → Option NodeData → Bool → List ℕ → List VolumeData → Option ℕ → Type 0
IsBestOf rows c node only_own excluded those (Some place) = IsBestOfAt rows c node only_own excluded those place
IsBestOf rows c node only_own excluded those None = HasNone rows c node only_own excluded those

-- the reference has the namespace and name of the claim
abbrev pub ref_is_to : ClaimData → Option Ref → Bool
ref_is_to c None = false
ref_is_to c (Some r) = names_claim r c

-- the volume has the class and the volume mode of the claim
abbrev pub is_grouped : VolumeData → ClaimData → Bool
is_grouped v c = bytes_eq (class_of_volume v) (class_of_claim c) && beq v.block c.block

-- the class, volume mode and bytes of the claim, with so many modes
abbrev pub wanted : ClaimData → ℕ → Size
wanted c modes = record { class = class_of_claim c; block = c.block; modes = modes; bytes = c.amount.bytes }

-- the claim by its namespace and name
abbrev pub claim_owner : ClaimData → Owner
claim_owner c = record { namespace = c.meta.namespace; name = c.meta.name }

-- the volume is eligible for the claim on no node, and without one
abbrev pub IsUnfit : ClaimData → VolumeData → Type 0
IsUnfit c v = (on : Option NodeData) → eligible v c on ≡ true → ⊥
