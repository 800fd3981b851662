-- Objects of every kind, and their lines.
-- Source: Kubernetes API, StorageClass, Node, Pod; the line is a choice of this project.
use Rattle.std.specs.Prelude.{ℕ, List, [], ◌∷◌, ◌++◌, true, false, Option, Some, None, codes}
use Rattle.serde_json.specs.Data.{Data, string, object, Members}
use Rattle.serde_json.specs.Written.{compact_text}
use Rattle.json_text.specs.Build.{put_all}
use Rattle.kube_parts.specs.Words.{policy_word, binding_mode}
use Rattle.kube_objects.specs.declared.objects.Class.{Class}
use Rattle.kube_objects.specs.declared.objects.Node.{Node}
use Rattle.kube_objects.specs.declared.objects.Pod.{Pod}
use Rattle.kube_objects.specs.declared.objects.Object.{Object}
use Rattle.kube_objects.specs.declared.objects.Object.TheVariants as objects
use Rattle.json_text.specs.Members.{MemberList, text, filled, filled_pairs, filled_object, object_of, within, extra_members}
use Rattle.object_print.specs.Metadata.{head_pairs}
use Rattle.object_print.specs.Volumes.{volume_data}
use Rattle.object_print.specs.Claims.{claim_data}

-- the members of a class behind its metadata
abbrev pub class_back : Class → MemberList
class_back c =
    (codes "parameters", filled_pairs c.parameters)
    ∷ (codes "provisioner", text c.provisioner)
    ∷ (codes "reclaimPolicy", text (policy_word c.policy))
    ∷ (codes "volumeBindingMode", text (binding_mode c.delayed))
    ∷ []

-- the members that are kept stand beside the others
unfoldable pub class_data : Class → Data
class_data c = object (put_all (head_pairs (codes "storage.k8s.io/v1") (codes "StorageClass") false c.meta ++ class_back c) (extra_members c.extra))

-- the members of a pod's spec: the node that it is assigned to, if any, over those that are kept
abbrev pub pod_spec : Pod → Members
pod_spec p = put_all ((codes "nodeName", filled p.node) ∷ []) (extra_members p.extra)

-- the spec of a pod that keeps no members
abbrev pub node_spec : List ℕ → Option Data
node_spec [] = None
node_spec (x ∷ xs) = Some (within (codes "nodeName") (string (x ∷ xs)))

-- the spec stands only where it has a member
abbrev pub pod_pairs : Pod → MemberList
pod_pairs p =
    head_pairs (codes "v1") (codes "Pod") true p.meta
    ++ (codes "spec", filled_object (pod_spec p))
    ∷ []

-- the manifest of a pod
unfoldable pub pod_data : Pod → Data
pod_data p = object_of (pod_pairs p)

-- the members of a node's manifest; the spec has only members that are kept, and stands only where there are any
abbrev pub node_pairs : Node → MemberList
node_pairs n =
    head_pairs (codes "v1") (codes "Node") false n.meta
    ++ (codes "spec", filled_object (extra_members n.extra))
    ∷ []

-- the manifest of a node
unfoldable pub node_data : Node → Data
node_data n = object_of (node_pairs n)

-- the manifest of an object of any kind
unfoldable pub object_data : Object → Data
object_data (objects.Class c) = class_data c
object_data (objects.Node n) = node_data n
object_data (objects.Volume v) = volume_data v
object_data (objects.Claim c) = claim_data c
object_data (objects.Pod p) = pod_data p

-- the compact text of the object, with no line feed
unfoldable pub object_line : Object → List ℕ
object_line o = compact_text (object_data o)
