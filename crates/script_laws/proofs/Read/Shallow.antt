-- A printed object that keeps members of one level less nests one level less deep.
use Rattle.std.proofs.Common.{[], ◌∷◌, ◌++◌, false, true, Option, Some, None, codes}
use Rattle.serde_json.specs.Data.{string}
use Rattle.json_text.specs.Build.{Good, GoodMembers, GoodOption}
use Rattle.json_text.proofs.Good.{good_put_all, good_object, good_string, good_object_of}
use Rattle.kube_parts.specs.Words.{mode_words}
use Rattle.kube_parts.specs.declared.parts.Modes.{Modes}
use Rattle.kube_objects.specs.declared.objects.Amount.{Amount}
use Rattle.kube_objects.specs.declared.objects.Volume.{Volume}
use Rattle.kube_objects.specs.declared.objects.Claim.{Claim}
use Rattle.kube_objects.specs.declared.objects.Class.{Class}
use Rattle.kube_objects.specs.declared.objects.Node.{Node}
use Rattle.kube_objects.specs.declared.objects.Pod.{Pod}
use Rattle.kube_objects.specs.declared.objects.Object.{Object}
use Rattle.kube_objects.specs.declared.objects.Object.TheVariants as objects
use Rattle.json_text.specs.Members.{filled, extra_members}
use Rattle.object_print.specs.Metadata.{head_pairs}
use Rattle.object_print.specs.Parts.{storage_data, ref_data, node_terms_data, selector_data}
use Rattle.object_print.specs.Volumes.{volume_front, volume_back, volume_spec, volume_status_pairs, volume_status, volume_pairs, volume_data}
use Rattle.object_print.specs.Claims.{claim_front, claim_back, claim_spec, got_modes, claim_status_pairs, claim_status, claim_pairs, claim_data}
use Rattle.object_print.specs.Objects.{class_back, class_data, pod_spec, pod_pairs, pod_data, node_pairs, node_data, object_data}
use Rattle.object_laws.proofs.CanonicalParts.{
  good_filled,
  good_option,
  good_texts,
  good_filled_array,
  good_filled_pairs,
  good_filled_object,
  good_meta,
  good_modes,
  good_storage,
  good_requests,
  good_ref,
  good_source,
  good_node_terms,
  good_selector,
}
use Rattle.script_laws.proofs.Read.Kept.{Keeps, KeepsLess}

good_volume_spec : (v : Volume) → Keeps 124 v.extra → Good 125 (volume_spec v)
unfolding volume_spec
good_volume_spec v h =
    good_object (good_put_all {n = 124} (volume_front v ++ volume_back v) (extra_members v.extra) (
      good_modes 123 v.modes,
      (
        good_storage 123 v.amount,
        (
          good_option 124 ref_data v.claim_ref (good_ref 123),
          (good_source 123 v.source, (good_option 124 node_terms_data v.terms (good_node_terms 117), (good_string, (good_filled 124 v.class, (good_string, tt))))),
        ),
      ),
    )
    h)

good_volume_status : (v : Volume) → Good 125 (volume_status v)
unfolding volume_status
good_volume_status v = good_object_of 124 (volume_status_pairs v) (good_string, tt)

good_volume : (v : Volume) → Keeps 124 v.extra → Good 126 (volume_data v)
unfolding volume_data
good_volume v h = good_object_of 125 (volume_pairs v) (good_string, (good_string, (good_meta 123 false v.meta, (good_volume_spec v h, (good_volume_status v, tt)))))

good_claim_spec : (c : Claim) → Keeps 124 c.extra → Good 125 (claim_spec c)
unfolding claim_spec
good_claim_spec c h =
    good_object (good_put_all {n = 124} (claim_front c ++ claim_back c) (extra_members c.extra) (
      good_modes 123 c.modes,
      (
        good_requests 122 c.amount,
        (good_option 124 selector_data c.selector (good_selector 120), (good_option 124 string c.class (good_texts 124), (good_string, (good_filled 124 c.volume_name, tt)))),
      ),
    )
    h)

good_got_modes : (got : Option Amount) (m : Modes) → GoodOption 124 (got_modes got m)
good_got_modes None m = good_filled_array 123 string (mode_words m) (good_texts 123)
good_got_modes (Some a) m = good_modes 123 m

good_claim_status : (c : Claim) → Good 125 (claim_status c)
unfolding claim_status
good_claim_status c = good_object_of 124 (claim_status_pairs c) (good_got_modes c.got c.got_modes, (good_option 124 storage_data c.got (good_storage 123), (good_string, tt)))

good_claim : (c : Claim) → Keeps 124 c.extra → Good 126 (claim_data c)
unfolding claim_data
good_claim c h = good_object_of 125 (claim_pairs c) (good_string, (good_string, (good_meta 123 true c.meta, (good_claim_spec c h, (good_claim_status c, tt)))))

good_class : (c : Class) → Keeps 125 c.extra → Good 126 (class_data c)
unfolding class_data
good_class c h =
    good_object (good_put_all {n = 125} (head_pairs (codes "storage.k8s.io/v1") (codes "StorageClass") false c.meta ++ class_back c) (extra_members c.extra)
    (good_string, (good_string, (good_meta 123 false c.meta, (good_filled_pairs 124 c.parameters, (good_string, (good_string, (good_string, tt)))))))
    h)

good_pod_spec : (p : Pod) → Keeps 124 p.extra → GoodMembers 124 (pod_spec p)
good_pod_spec p h = good_put_all ((codes "nodeName", filled p.node) ∷ []) (extra_members p.extra) (good_filled 124 p.node, tt) h

good_pod : (p : Pod) → Keeps 124 p.extra → Good 126 (pod_data p)
unfolding pod_data
good_pod p h = good_object_of 125 (pod_pairs p) (good_string, (good_string, (good_meta 123 true p.meta, (good_filled_object 124 (pod_spec p) (good_pod_spec p h), tt))))

good_node : (n : Node) → Keeps 124 n.extra → Good 126 (node_data n)
unfolding node_data
good_node n h = good_object_of 125 (node_pairs n) (good_string, (good_string, (good_meta 123 false n.meta, (good_filled_object 124 (extra_members n.extra) h, tt))))

pub object_less : (o : Object) → KeepsLess o → Good 126 (object_data o)
unfolding object_data
object_less (objects.Class c) h = good_class c h
object_less (objects.Node n) h = good_node n h
object_less (objects.Volume v) h = good_volume v h
object_less (objects.Claim c) h = good_claim c h
object_less (objects.Pod p) h = good_pod p h
