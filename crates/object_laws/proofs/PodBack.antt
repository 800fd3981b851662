-- What is printed of a node or of a pod is read again. The spec is left out where it would have no member.
use Rattle.std.proofs.Common.{◌≡◌, ℕ, List, [], ◌∷◌, true, false, Option, Some, None, Ok, codes, refl, ◌∙◌, arith}
use Rattle.serde_json.specs.Data.{Data, object, Members, no_members, member}
use Rattle.serde_json.specs.Find.{get, get_member}
use Rattle.json_text.specs.Build.{put_all, pick}
use Rattle.json_text.proofs.PutAll.{get-put_all}
use Rattle.kube_objects.specs.declared.objects.Node.{Node}
use Rattle.kube_objects.specs.declared.objects.Pod.{Pod}
use Rattle.json_text.specs.Members.{MemberList, filled, filled_object}
use Rattle.object_print.specs.Objects.{pod_pairs, pod_data, node_pairs, node_data}
use Rattle.object_text.specs.declared.errors.Member.{Member}
use Rattle.object_text.specs.declared.errors.Member.TheVariants as members
use Rattle.object_text.specs.declared.extra.Listed.{Listed}
use Rattle.object_text.specs.declared.extra.Listed.TheVariants as listed
use Rattle.object_text.specs.MemberReaders.{at, way_from}
use Rattle.object_text.specs.MemberWords.{member_word}
use Rattle.object_text.specs.PartReaders.{claims_at}
use Rattle.object_text.specs.KindReaders.{node_of, pod_of}
use Rattle.object_text.specs.ExtraMembers.{extra_at}
use Rattle.object_laws.specs.Given.{ArePodExtra, IsNode, IsPod}
use Rattle.object_laws.proofs.ExtraBack.{extra_back, spec_has, kept_back}
use Rattle.object_laws.proofs.PartsBack.{text_back}
use Rattle.object_laws.proofs.MetaBack.{meta_back}

-- ---- an object that is left out where it has no member reads as the object

way_back : (m : Member) (ms : Members) → way_from m (filled_object ms) ≡ Ok (filled_object ms)
way_back m no_members = refl
way_back m (member k d ms) = refl

filled_has : (m : Member) (ms : Members) → at m (filled_object ms) ≡ get_member (member_word m) ms
filled_has m no_members = refl
filled_has m (member k d ms) = refl

filled_claims : (ms : Members) → claims_at (filled_object ms) ≡ claims_at (Some (object ms))
unfolding claims_at
filled_claims no_members = refl
filled_claims (member k d ms) = refl

filled_extra : (known : Listed) (ms : Members) → extra_at known (filled_object ms) ≡ extra_at known (Some (object ms))
unfolding extra_at
filled_extra known no_members = refl
filled_extra known (member k d ms) = refl

-- ---- nodes

node_has : (k : List ℕ) (n : Node) → get k (node_data n) ≡ pick k (node_pairs n) None
unfolding node_data
node_has k n = get-put_all k (node_pairs n) no_members

pub node_back : (n : Node) → IsNode n → node_of (node_data n) ≡ Ok n
unfolding node_of
node_back n h =
    let ms : Members = h.extra.0 in
    let kept : extra_at listed.Node (filled_object ms) ≡ n.extra = filled_extra listed.Node ms ∙ kept_back 125 listed.Node [] n.extra ms h.extra.1 refl in
    rw (
      meta_back false n.meta (node_data n) h.meta (node_has (codes "metadata") n),
      node_has (codes "spec") n,
      extra_back 125 listed.Node n.extra ms (omega arith) h.extra.1,
      way_back members.Spec ms,
      kept,
    ) refl

-- ---- pods

abbrev spec_pairs : Pod → MemberList
spec_pairs p = (codes "nodeName", filled p.node) ∷ []

pod_has : (k : List ℕ) (p : Pod) → get k (pod_data p) ≡ pick k (pod_pairs p) None
unfolding pod_data
pod_has k p = get-put_all k (pod_pairs p) no_members

claims_back : (p : Pod) (ms : Members) → ArePodExtra p ms → claims_at (filled_object (put_all (spec_pairs p) ms)) ≡ Ok p.claims
unfolding claims_at
claims_back p ms h = filled_claims (put_all (spec_pairs p) ms) ∙ rw (get-put_all (codes "volumes") (spec_pairs p) ms) h.claims

node_name_is : (p : Pod) (ms : Members) → ArePodExtra p ms → at members.NodeName (filled_object (put_all (spec_pairs p) ms)) ≡ filled p.node
node_name_is p ms h = filled_has members.NodeName (put_all (spec_pairs p) ms) ∙ spec_has listed.Pod (spec_pairs p) ms (codes "nodeName") h.extra.others refl

pub pod_back : (p : Pod) → IsPod p → pod_of (pod_data p) ≡ Ok p
unfolding pod_of
pod_back p h =
    let ms : Members = h.extra.0 in
    let place : Option Data = filled_object (put_all (spec_pairs p) ms) in
    let kept : extra_at listed.Pod place ≡ p.extra = filled_extra listed.Pod (put_all (spec_pairs p) ms) ∙ kept_back 125 listed.Pod (spec_pairs p) p.extra ms h.extra.1.extra refl in
    rw (
      meta_back true p.meta (pod_data p) h.meta (pod_has (codes "metadata") p),
      pod_has (codes "spec") p,
      extra_back 125 listed.Pod p.extra ms (omega arith) h.extra.1.extra,
      way_back members.Spec (put_all (spec_pairs p) ms),
    )
    (rw (text_back members.NodeName place p.node (node_name_is p ms h.extra.1), claims_back p ms h.extra.1, kept) refl)
