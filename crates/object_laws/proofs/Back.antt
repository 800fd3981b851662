-- What is printed of an object is read again.
use Rattle.std.proofs.Common.{◌≡◌, true, false, Some, Ok, codes, refl, ◌∙◌}
use Rattle.serde_json.specs.Data.{Data, string, no_members}
use Rattle.serde_json.specs.Find.{get}
use Rattle.serde_json.specs.Written.{has_float}
use Rattle.json_text.proofs.PutAll.{get-put_all}
use Rattle.kube_objects.specs.Keys.{kind_of}
use Rattle.kube_parts.specs.Words.{kind_word}
use Rattle.kube_parts.specs.declared.parts.Kind.{Kind}
use Rattle.kube_parts.specs.declared.parts.Kind.TheVariants as kinds
use Rattle.kube_objects.specs.declared.objects.Class.{Class}
use Rattle.kube_objects.specs.declared.objects.Node.{Node}
use Rattle.kube_objects.specs.declared.objects.Volume.{Volume}
use Rattle.kube_objects.specs.declared.objects.Claim.{Claim}
use Rattle.kube_objects.specs.declared.objects.Pod.{Pod}
use Rattle.kube_objects.specs.declared.objects.Object.{Object}
use Rattle.kube_objects.specs.declared.objects.Object.TheVariants as objects
use Rattle.object_print.specs.Volumes.{volume_pairs, volume_data}
use Rattle.object_print.specs.Claims.{claim_pairs, claim_data}
use Rattle.object_print.specs.Objects.{class_data, pod_pairs, pod_data, node_pairs, node_data, object_data}
use Rattle.object_print.proofs.ObjectFloats.{class_free, node_free, volume_free, claim_free, pod_free}
use Rattle.object_text.specs.Reading.{is_object, api_version, kind_at, object_of_kind, object_of}
use Rattle.object_laws.specs.Given.{IsClass, IsGivenObject}
use Rattle.object_laws.proofs.ClassBack.{class_is, class_has, class_back}
use Rattle.object_laws.proofs.PodBack.{node_back, pod_back}
use Rattle.object_laws.proofs.VolumeBack.{volume_back}
use Rattle.object_laws.proofs.ClaimBack.{claim_back}

-- the members that tell the kind of an object
pub record TellsKind (kind : Kind) (d : Data) : Type 0 where
  pub members : is_object d ≡ true
  pub name : get (codes "kind") d ≡ Some (string (kind_word kind))
  pub version : get (codes "apiVersion") d ≡ Some (string (api_version kind))

kind_back : (kind : Kind) (d : Data) → TellsKind kind d → kind_at d ≡ Ok kind
unfolding kind_at
kind_back kinds.StorageClass d h = rw (h.name, h.version) refl
kind_back kinds.Node d h = rw (h.name, h.version) refl
kind_back kinds.PersistentVolume d h = rw (h.name, h.version) refl
kind_back kinds.PersistentVolumeClaim d h = rw (h.name, h.version) refl
kind_back kinds.Pod d h = rw (h.name, h.version) refl

read_by_kind : (kind : Kind) (d : Data) → TellsKind kind d → has_float d ≡ false → object_of d ≡ object_of_kind kind d
unfolding object_of
read_by_kind kind d h whole = rw (h.members, whole, kind_back kind d h) refl

class_tells : (c : Class) → IsClass c → TellsKind kinds.StorageClass (class_data c)
class_tells c h =
    rw (class_is c h.extra.0 h.extra.1)
    (record { members = refl; name = class_has c h.extra.0 h.extra.1 (codes "kind") refl; version = class_has c h.extra.0 h.extra.1 (codes "apiVersion") refl })

node_tells : (n : Node) → TellsKind kinds.Node (node_data n)
unfolding node_data
node_tells n = record { members = refl; name = get-put_all (codes "kind") (node_pairs n) no_members; version = get-put_all (codes "apiVersion") (node_pairs n) no_members }

volume_tells : (v : Volume) → TellsKind kinds.PersistentVolume (volume_data v)
unfolding volume_data
volume_tells v = record { members = refl; name = get-put_all (codes "kind") (volume_pairs v) no_members; version = get-put_all (codes "apiVersion") (volume_pairs v) no_members }

claim_tells : (c : Claim) → TellsKind kinds.PersistentVolumeClaim (claim_data c)
unfolding claim_data
claim_tells c = record { members = refl; name = get-put_all (codes "kind") (claim_pairs c) no_members; version = get-put_all (codes "apiVersion") (claim_pairs c) no_members }

pod_tells : (p : Pod) → TellsKind kinds.Pod (pod_data p)
unfolding pod_data
pod_tells p = record { members = refl; name = get-put_all (codes "kind") (pod_pairs p) no_members; version = get-put_all (codes "apiVersion") (pod_pairs p) no_members }

pub object_tells : (o : Object) → IsGivenObject o → TellsKind (kind_of o) (object_data o)
unfolding object_data
object_tells (objects.Class c) h = class_tells c h
object_tells (objects.Node n) h = node_tells n
object_tells (objects.Volume v) h = volume_tells v
object_tells (objects.Claim c) h = claim_tells c
object_tells (objects.Pod p) h = pod_tells p

pub object_back : (o : Object) → IsGivenObject o → object_of (object_data o) ≡ Ok o
unfolding object_data
object_back (objects.Class c) h = read_by_kind kinds.StorageClass (class_data c) (class_tells c h) (class_free c) ∙ rw (class_back c h) refl
object_back (objects.Node n) h = read_by_kind kinds.Node (node_data n) (node_tells n) (node_free n) ∙ rw (node_back n h) refl
object_back (objects.Volume v) h = read_by_kind kinds.PersistentVolume (volume_data v) (volume_tells v) (volume_free v) ∙ rw (volume_back v h) refl
object_back (objects.Claim c) h = read_by_kind kinds.PersistentVolumeClaim (claim_data c) (claim_tells c) (claim_free c) ∙ rw (claim_back c h) refl
object_back (objects.Pod p) h = read_by_kind kinds.Pod (pod_data p) (pod_tells p) (pod_free p) ∙ rw (pod_back p h) refl
