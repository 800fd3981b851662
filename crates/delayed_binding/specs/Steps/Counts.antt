-- How many volumes a node may give to claims that are as large as one, and of its class. A choice of this project.
use Rattle.std.specs.Prelude.{ℕ, suc, ◌+◌, ◌-◌, Bool, false, not, ◌&&◌, List, [], ◌∷◌, Option, Some, None, bytes_eq, nat_le, if◌then◌else◌}
use Rattle.kube_objects.specs.declared.objects.Claim.{Claim as ClaimData}
use Rattle.kube_objects.specs.declared.objects.Node.{Node as NodeData}
use Rattle.kube_objects.specs.declared.objects.Volume.{Volume as VolumeData}
use Rattle.kube_objects.specs.declared.objects.Object.{Object}
use Rattle.kube_objects.specs.Bindings.{class_of_claim, class_of_volume, is_deleting, is_ended}
use Rattle.volume_index.specs.VolumeIndex.{as_volume}
use Rattle.label_rules.specs.Selectors.{admits}
use Rattle.binder_model.specs.Matching.{is_excluded}

-- the claim is of this one's class, and asks for as many bytes or more
abbrev pub asks_like : ClaimData → ClaimData → Bool
asks_like one c = bytes_eq (class_of_claim c) (class_of_claim one) && nat_le one.amount.bytes c.amount.bytes

-- the volume is of this one's class, large enough for it, not deleting and not ended
abbrev pub is_open_for : ClaimData → VolumeData → Bool
is_open_for one v = bytes_eq (class_of_volume v) (class_of_claim one) && nat_le one.amount.bytes v.amount.bytes && not (is_deleting v.meta) && not (is_ended v.phase)

-- and it admits the node
abbrev pub may_give : ClaimData → NodeData → VolumeData → Bool
may_give one n v = is_open_for one v && admits v.terms n.meta.labels

-- so does the volume there, if there is one
abbrev pub gives_at : ClaimData → NodeData → Option VolumeData → Bool
gives_at one n None = false
gives_at one n (Some v) = may_give one n v

-- one more, where it is one
abbrev pub one_more : Bool → ℕ → ℕ
one_more is count = if is then suc count else count

-- one less, where it is one
abbrev pub one_less : Bool → ℕ → ℕ
one_less is left = if is then left - 1 else left

-- how many of the objects are such volumes
abbrev pub count_given : ClaimData → NodeData → List Object → ℕ
count_given one n [] = 0
count_given one n (o ∷ os) = one_more (gives_at one n (as_volume (Some o))) (count_given one n os)

-- how many of them, the first of which stands at this place, are left
abbrev pub count_left : ClaimData → NodeData → List ℕ → ℕ → List Object → ℕ
count_left one n taken place [] = 0
count_left one n taken place (o ∷ os) = one_more (gives_at one n (as_volume (Some o)) && not (is_excluded taken place)) (count_left one n taken (place + 1) os)
