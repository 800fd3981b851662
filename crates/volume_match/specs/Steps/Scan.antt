-- The best volume among those before a place. A choice of this project.
use Rattle.std.specs.Prelude.{ℕ, ◌≢◌, ◌<◌, nat_le, Bool, true, not, ◌&&◌, List, Option, Some, None}
use Rattle.std.specs.declared.cmp.Ordering.TheVariants.{Greater}
use Rattle.std.specs.Ordering.{is_lt}
use Rattle.kube_objects.specs.declared.objects.Node.{Node as NodeData}
use Rattle.kube_objects.specs.declared.objects.Volume.{Volume as VolumeData}
use Rattle.kube_objects.specs.declared.objects.Claim.{Claim as ClaimData}
use Rattle.kube_objects.specs.declared.objects.Object.{Object}
use Rattle.binder_model.specs.Matching.{IsCandidate, eligible, is_excluded, match_cmp, may_serve, only_own_passes}
use Rattle.volume_match.specs.Volumes.{volume_at}

-- the volume is large enough, and is the claim's or nobody's
abbrev pub serves : VolumeData → ClaimData → Bool
serves v c = nat_le c.amount.bytes v.amount.bytes && may_serve v c

-- the volume may be taken
abbrev pub is_open : ClaimData → Option NodeData → Bool → List ℕ → ℕ → VolumeData → Bool
is_open c node only_own excluded place v = not (is_excluded excluded place) && (only_own_passes only_own v c && eligible v c node)

-- the volume is a better match than the other, if there is another
abbrev pub comes_before : ClaimData → VolumeData → Option VolumeData → Bool
comes_before c v None = true
comes_before c v (Some u) = is_lt (match_cmp c v u)

-- the claim prefers the volume to the one at this place
abbrev pub is_preferred : List Object → ClaimData → VolumeData → Option ℕ → Bool
is_preferred rows c v None = true
is_preferred rows c v (Some place) = comes_before c v (volume_at rows place)

-- no candidate below the bound stands before the one at this place
pub record IsBestAtBelow (rows : List Object) (c : ClaimData) (node : Option NodeData) (only_own : Bool) (excluded : List ℕ) (bound place : ℕ) : Type 0 where
  pub volume : VolumeData
  pub candidate : IsCandidate rows c node only_own excluded place volume
  pub first : (other : ℕ) → other < bound → (u : VolumeData) → IsCandidate rows c node only_own excluded other u → match_cmp c volume u ≢ Greater

-- the best candidate below the bound, or none where there is none
abbrev pub IsBestBelow : List Object → ClaimData → Option NodeData → Bool → List ℕ → ℕ → Option ℕ → Type 0
IsBestBelow rows c node only_own excluded bound (Some place) = IsBestAtBelow rows c node only_own excluded bound place
IsBestBelow rows c node only_own excluded bound None = (place : ℕ) → place < bound → (v : VolumeData) → IsCandidate rows c node only_own excluded place v → ⊥
