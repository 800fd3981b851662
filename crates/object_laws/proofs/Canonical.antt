-- A printed object is canonical, and nests no deeper than is read.
use Rattle.std.proofs.Common.{ℕ, ◌≤◌, List, [], ◌∷◌, ◌++◌, false, true, Option, Some, None, codes, arith}
use Rattle.serde_json.specs.Data.{Members, string}
use Rattle.json_text.specs.Build.{Good, GoodMembers, GoodOption}
use Rattle.json_text.proofs.Good.{good_put_all, good_object, good_string, good_object_of}
use Rattle.kube_parts.specs.Words.{mode_words}
use Rattle.kube_parts.specs.declared.parts.Modes.{Modes}
use Rattle.kube_objects.specs.declared.objects.Amount.{Amount}
use Rattle.kube_objects.specs.declared.objects.Volume.{Volume}
use Rattle.kube_objects.specs.declared.objects.Claim.{Claim}
use Rattle.kube_objects.specs.declared.objects.Class.{Class}
use Rattle.kube_objects.specs.declared.objects.Node.{Node}
use Rattle.kube_objects.specs.declared.objects.Pod.{Pod}
use Rattle.kube_objects.specs.declared.objects.Object.{Object}
use Rattle.kube_objects.specs.declared.objects.Object.TheVariants as objects
use Rattle.json_text.specs.Members.{filled, extra_members}
use Rattle.object_print.specs.Metadata.{head_pairs}
use Rattle.object_print.specs.Parts.{storage_data, ref_data, node_terms_data, selector_data}
use Rattle.object_print.specs.Volumes.{volume_front, volume_back, volume_spec, volume_status_pairs, volume_status, volume_pairs, volume_data}
use Rattle.object_print.specs.Claims.{claim_front, claim_back, claim_spec, got_modes, claim_status_pairs, claim_status, claim_pairs, claim_data}
use Rattle.object_print.specs.Objects.{class_back, class_data, pod_spec, pod_pairs, pod_data, node_pairs, node_data, object_data}
use Rattle.object_text.specs.declared.extra.Listed.{Listed}
use Rattle.object_laws.specs.Given.{AreExtra, IsVolume, IsClaim, IsClass, IsNode, IsPod, IsGivenObject}
use Rattle.object_laws.proofs.ExtraBack.{extra_back}
use Rattle.object_laws.proofs.CanonicalParts.{
  good_filled,
  good_option,
  good_texts,
  good_filled_array,
  good_filled_pairs,
  good_filled_object,
  good_meta,
  good_modes,
  good_storage,
  good_requests,
  good_ref,
  good_source,
  good_node_terms,
  good_selector,
}

good_extra : (n : ℕ) (known : Listed) (kept : List ℕ) (ms : Members) → n ≤ 126 → AreExtra n known kept ms → GoodMembers n (extra_members kept)
good_extra n known kept ms le h = rw (extra_back n known kept ms le h) h.good

-- the members of a spec
good_kept : (known : Listed) (kept : List ℕ) (ms : Members) → AreExtra 125 known kept ms → GoodMembers 125 (extra_members kept)
good_kept known kept ms h = good_extra 125 known kept ms (omega arith) h

good_volume_spec : (v : Volume) → IsVolume v → Good 126 (volume_spec v)
unfolding volume_spec
good_volume_spec v h =
    good_object (good_put_all {n = 125} (volume_front v ++ volume_back v) (extra_members v.extra) (
      good_modes 124 v.modes,
      (
        good_storage 124 v.amount,
        (
          good_option 125 ref_data v.claim_ref (good_ref 124),
          (good_source 124 v.source, (good_option 125 node_terms_data v.terms (good_node_terms 118), (good_string, (good_filled 125 v.class, (good_string, tt))))),
        ),
      ),
    )
    (good_kept _ v.extra h.extra.0 h.extra.1.extra))

good_volume_status : (v : Volume) → Good 126 (volume_status v)
unfolding volume_status
good_volume_status v = good_object_of 125 (volume_status_pairs v) (good_string, tt)

good_volume : (v : Volume) → IsVolume v → Good 127 (volume_data v)
unfolding volume_data
good_volume v h = good_object_of 126 (volume_pairs v) (good_string, (good_string, (good_meta 124 false v.meta, (good_volume_spec v h, (good_volume_status v, tt)))))

good_claim_spec : (c : Claim) → IsClaim c → Good 126 (claim_spec c)
unfolding claim_spec
good_claim_spec c h =
    good_object (good_put_all {n = 125} (claim_front c ++ claim_back c) (extra_members c.extra) (
      good_modes 124 c.modes,
      (
        good_requests 123 c.amount,
        (good_option 125 selector_data c.selector (good_selector 121), (good_option 125 string c.class (good_texts 125), (good_string, (good_filled 125 c.volume_name, tt)))),
      ),
    )
    (good_kept _ c.extra h.extra.0 h.extra.1))

good_got_modes : (got : Option Amount) (m : Modes) → GoodOption 125 (got_modes got m)
good_got_modes None m = good_filled_array 124 string (mode_words m) (good_texts 124)
good_got_modes (Some a) m = good_modes 124 m

good_claim_status : (c : Claim) → Good 126 (claim_status c)
unfolding claim_status
good_claim_status c = good_object_of 125 (claim_status_pairs c) (good_got_modes c.got c.got_modes, (good_option 125 storage_data c.got (good_storage 124), (good_string, tt)))

good_claim : (c : Claim) → IsClaim c → Good 127 (claim_data c)
unfolding claim_data
good_claim c h = good_object_of 126 (claim_pairs c) (good_string, (good_string, (good_meta 124 true c.meta, (good_claim_spec c h, (good_claim_status c, tt)))))

good_class : (c : Class) → IsClass c → Good 127 (class_data c)
unfolding class_data
good_class c h =
    good_object (good_put_all {n = 126} (head_pairs (codes "storage.k8s.io/v1") (codes "StorageClass") false c.meta ++ class_back c) (extra_members c.extra)
    (good_string, (good_string, (good_meta 124 false c.meta, (good_filled_pairs 125 c.parameters, (good_string, (good_string, (good_string, tt)))))))
    (good_extra 126 _ c.extra h.extra.0 (omega arith) h.extra.1))

good_pod_spec : (p : Pod) → IsPod p → GoodMembers 125 (pod_spec p)
good_pod_spec p h = good_put_all ((codes "nodeName", filled p.node) ∷ []) (extra_members p.extra) (good_filled 125 p.node, tt) (good_kept _ p.extra h.extra.0 h.extra.1.extra)

good_pod : (p : Pod) → IsPod p → Good 127 (pod_data p)
unfolding pod_data
good_pod p h = good_object_of 126 (pod_pairs p) (good_string, (good_string, (good_meta 124 true p.meta, (good_filled_object 125 (pod_spec p) (good_pod_spec p h), tt))))

good_node : (n : Node) → IsNode n → Good 127 (node_data n)
unfolding node_data
good_node n h = good_object_of 126 (node_pairs n)
    (good_string, (good_string, (good_meta 124 false n.meta, (good_filled_object 125 (extra_members n.extra) (good_kept _ n.extra h.extra.0 h.extra.1), tt))))

pub object_good : (o : Object) → IsGivenObject o → Good 127 (object_data o)
unfolding object_data
object_good (objects.Class c) h = good_class c h
object_good (objects.Node n) h = good_node n h
object_good (objects.Volume v) h = good_volume v h
object_good (objects.Claim c) h = good_claim c h
object_good (objects.Pod p) h = good_pod p h
