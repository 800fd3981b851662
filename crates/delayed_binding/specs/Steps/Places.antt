-- What is seen of the volume at a place of a look-up. A choice of this project.
use Rattle.std.specs.Prelude.{Bool, true, false, not, ◌||◌, Option, Some, None}
use Rattle.kube_objects.specs.declared.objects.Claim.{Claim as ClaimData}
use Rattle.kube_objects.specs.declared.objects.Node.{Node as NodeData}
use Rattle.kube_objects.specs.declared.objects.Object.{Object}
use Rattle.kube_objects.specs.declared.objects.Volume.{Volume as VolumeData}
use Rattle.kube_objects.specs.Bindings.{carries, is_empty}
use Rattle.kube_objects.specs.Keys.{meta_of}
use Rattle.label_rules.specs.Selectors.{admits}

-- the volume there carries the claim
abbrev pub carries_at : ClaimData → Option VolumeData → Bool
carries_at c None = false
carries_at c (Some v) = carries v c

-- the volume does not carry the claim, or it admits the node
abbrev pub admits_unless_other : NodeData → ClaimData → VolumeData → Bool
admits_unless_other n c v = not (carries v c) || admits v.terms n.meta.labels

-- so does the volume there, if there is one
abbrev pub admits_at : NodeData → ClaimData → Option VolumeData → Bool
admits_at n c None = true
admits_at n c (Some v) = admits_unless_other n c v

-- there is an object, and it has a namespace
abbrev pub is_in_namespace : Option Object → Bool
is_in_namespace None = false
is_in_namespace (Some o) = not (is_empty (meta_of o).namespace)
