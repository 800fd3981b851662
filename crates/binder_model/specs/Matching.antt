-- Which volume a claim is bound to: eligible, and the best of the eligible.
-- Source: Kubernetes documentation, "Persistent Volumes" (Binding), and the volume index of `pv_controller.go`;
-- that a pre-bound volume must fit too, and that ties go by name, is this project's choice.
use Rattle.std.specs.Prelude.{ℕ, ◌≡◌, ◌≢◌, ◌==◌, nat_le, Bool, true, false, not, ◌&&◌, ◌||◌, List, Option, Some, None, bytes_eq, is_none, slice_get, if◌then◌else◌}
use Rattle.std.specs.Bool.{beq}
use Rattle.std.specs.List.{list_any}
use Rattle.std.specs.declared.cmp.Ordering.{Ordering}
use Rattle.std.specs.declared.cmp.Ordering.TheVariants.{Greater}
use Rattle.std.specs.Ordering.{nat_cmp, ordering_then}
use Rattle.plain_data.specs.Pairs.{Pair, text_cmp}
use Rattle.kube_parts.specs.declared.parts.Modes.{Modes}
use Rattle.kube_parts.specs.declared.parts.Kind.TheVariants as kinds
use Rattle.kube_objects.specs.declared.objects.Selector.{Selector}
use Rattle.kube_objects.specs.declared.objects.Node.{Node as NodeData}
use Rattle.kube_objects.specs.declared.objects.Volume.{Volume as VolumeData}
use Rattle.kube_objects.specs.declared.objects.Claim.{Claim as ClaimData}
use Rattle.kube_objects.specs.declared.objects.Object.{Object}
use Rattle.kube_objects.specs.declared.objects.Object.TheVariants.{Class, Volume}
use Rattle.kube_objects.specs.Keys.{rows_of, row_at}
use Rattle.kube_objects.specs.Bindings.{class_of_volume, class_of_claim, is_deleting, is_protected_volume, is_for, is_ended, is_available, mode_count}
use Rattle.label_rules.specs.Selectors.{selects, admits}
use Rattle.binder_model.specs.ObjectKeys.{class_key}

-- each mode of the first is one of the second
abbrev pub covers : Modes → Modes → Bool
covers wanted given = (not wanted.rwo || given.rwo) && (not wanted.rox || given.rox) && (not wanted.rwx || given.rwx) && (not wanted.rwop || given.rwop)

-- size, class, volume mode and access modes fit
abbrev pub fits : VolumeData → ClaimData → Bool
fits v c = nat_le c.amount.bytes v.amount.bytes && bytes_eq (class_of_volume v) (class_of_claim c) && beq v.block c.block && covers c.modes v.modes

-- the selector, if there is one, selects these labels
abbrev pub is_selected : Option Selector → List Pair → Bool
is_selected None labels = true
is_selected (Some s) labels = selects s labels

-- the volume can be reached from the node, if one is given
abbrev pub is_admitted_on : VolumeData → Option NodeData → Bool
is_admitted_on v None = true
is_admitted_on v (Some n) = admits v.terms n.meta.labels

-- for this claim and not ended, or free
abbrev pub may_serve : VolumeData → ClaimData → Bool
may_serve v c = (is_for v c && not (is_ended v.phase)) || (is_available v.phase && is_none v.claim_ref)

-- the volume may be bound to the claim, on the node where one is given
abbrev pub eligible : VolumeData → ClaimData → Option NodeData → Bool
eligible v c node =
    not (is_deleting v.meta) && is_protected_volume v && fits v c
    && is_selected c.selector v.meta.labels && is_admitted_on v node && may_serve v c

-- 0 for a volume that is for the claim, 1 for any other, so that those for it come first
abbrev pub for_last : VolumeData → ClaimData → ℕ
for_last v c = if is_for v c then 0 else 1

-- the order in which a claim prefers volumes: those for it, then fewer modes, fewer bytes, the name
abbrev pub match_cmp : ClaimData → VolumeData → VolumeData → Ordering
match_cmp c v u =
    ordering_then (ordering_then (ordering_then
    (nat_cmp (for_last v c) (for_last u c))
    (nat_cmp (mode_count v.modes) (mode_count u.modes)))
    (nat_cmp v.amount.bytes u.amount.bytes))
    (text_cmp v.meta.name u.meta.name)

-- the volume at this place is given away already
abbrev pub is_excluded : List ℕ → ℕ → Bool
is_excluded excluded place = list_any (λ p. p == place) excluded

-- where only volumes for the claim are wanted, this is one
abbrev pub only_own_passes : Bool → VolumeData → ClaimData → Bool
only_own_passes true v c = is_for v c
only_own_passes false v c = true

-- the volume at a place among the volumes may be taken
pub record IsCandidate (rows : List Object) (claim : ClaimData) (node : Option NodeData) (only_own : Bool) (excluded : List ℕ) (place : ℕ) (volume : VolumeData) : Type 0 where
  pub there : slice_get (rows_of kinds.PersistentVolume rows) place ≡ Some (Volume volume)
  pub open_to : is_excluded excluded place ≡ false
  pub own : only_own_passes only_own volume claim ≡ true
  pub eligible : eligible volume claim node ≡ true

-- no candidate stands before the one at this place
pub record IsBestAt (rows : List Object) (claim : ClaimData) (node : Option NodeData) (only_own : Bool) (excluded : List ℕ) (place : ℕ) : Type 0 where
  pub volume : VolumeData
  pub candidate : IsCandidate rows claim node only_own excluded place volume
  pub first : (other : ℕ) (another : VolumeData) → IsCandidate rows claim node only_own excluded other another → match_cmp claim volume another ≢ Greater

-- the best candidate, or none where there is no candidate
abbrev pub IsBest : List Object → ClaimData → Option NodeData → Bool → List ℕ → Option ℕ → Type 0
IsBest rows claim node only_own excluded (Some place) = IsBestAt rows claim node only_own excluded place
IsBest rows claim node only_own excluded None = (place : ℕ) (volume : VolumeData) → IsCandidate rows claim node only_own excluded place volume → ⊥

-- a class stands there, and its binding mode is WaitForFirstConsumer
abbrev pub is_delayed : Option Object → Bool
is_delayed (Some (Class x)) = x.delayed
is_delayed _ = false

-- the claim waits for its first pod. Source: "Volume Binding Mode"
abbrev pub waits_for_pod : List Object → ClaimData → Bool
waits_for_pod rows c = is_delayed (row_at (class_key (class_of_claim c)) rows)

-- the binder may take the volume for the claim: under a delayed class only one that is for it
abbrev pub binder_takes : List Object → ClaimData → Object → Bool
binder_takes rows c (Volume v) = eligible v c None && only_own_passes (waits_for_pod rows c) v c
binder_takes rows c o = false

-- some volume can be taken
abbrev pub has_match : List Object → ClaimData → Bool
has_match rows c = list_any (binder_takes rows c) rows
