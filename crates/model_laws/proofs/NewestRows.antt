-- A key has one newest object of each kind.
use Rattle.std.proofs.Common.{sym, ap, ◌∙◌}
use Rattle.std.specs.Prelude.{◌≡◌, List, Option, Some}
use Rattle.kube_objects.specs.declared.key.Key.{Key}
use Rattle.kube_objects.specs.declared.objects.Node.{Node as NodeData}
use Rattle.kube_objects.specs.declared.objects.Pod.{Pod as PodData}
use Rattle.kube_objects.specs.declared.objects.Volume.{Volume as VolumeData}
use Rattle.kube_objects.specs.declared.objects.Claim.{Claim as ClaimData}
use Rattle.kube_objects.specs.declared.objects.Object.{Object}
use Rattle.kube_objects.specs.declared.objects.Object.TheVariants.{Node, Volume, Claim, Pod}
use Rattle.call_types.specs.declared.entry.Entry.{Entry}
use Rattle.binder_model.specs.Told.{IsNewest}

abbrev pod_of : PodData → Option Object → PodData
pod_of x (Some (Pod y)) = y
pod_of x o = x

abbrev node_of : NodeData → Option Object → NodeData
node_of x (Some (Node y)) = y
node_of x o = x

abbrev claim_of : ClaimData → Option Object → ClaimData
claim_of x (Some (Claim y)) = y
claim_of x o = x

abbrev volume_of : VolumeData → Option Object → VolumeData
volume_of x (Some (Volume y)) = y
volume_of x o = x

pub newest_pod : (mine : List Entry) (key : Key) (x y : PodData) → IsNewest mine key (Pod x) → IsNewest mine key (Pod y) → x ≡ y
newest_pod mine key x y e f = ap (pod_of x) (sym e ∙ f)

pub newest_node : (mine : List Entry) (key : Key) (x y : NodeData) → IsNewest mine key (Node x) → IsNewest mine key (Node y) → x ≡ y
newest_node mine key x y e f = ap (node_of x) (sym e ∙ f)

pub newest_claim : (mine : List Entry) (key : Key) (x y : ClaimData) → IsNewest mine key (Claim x) → IsNewest mine key (Claim y) → x ≡ y
newest_claim mine key x y e f = ap (claim_of x) (sym e ∙ f)

pub newest_volume : (mine : List Entry) (key : Key) (x y : VolumeData) → IsNewest mine key (Volume x) → IsNewest mine key (Volume y) → x ≡ y
newest_volume mine key x y e f = ap (volume_of x) (sym e ∙ f)
