-- What stands between the brackets of classes, nodes and pods is their data.
use Rattle.std.proofs.Common.{◌≡◌, ℕ, List, [], ◌∷◌, ◌++◌, true, false, codes, refl, sym, ap, ◌∙◌}
use Rattle.serde_json.specs.Data.{object, no_members}
use Rattle.json_text.specs.Build.{put_some, put_all}
use Rattle.kube_objects.specs.declared.objects.Class.{Class}
use Rattle.kube_objects.specs.declared.objects.Node.{Node}
use Rattle.kube_objects.specs.declared.objects.Pod.{Pod}
use Rattle.json_text.specs.Members.{MemberList, filled, filled_object, extra_members, with_option, with_options, with_member_text, member_texts}
use Rattle.json_text.specs.Writing.{Writing, closed, opened, with_all, with_value, with_some, with_texts, with_filled_texts}
use Rattle.json_text.proofs.Closing.{closes, no_extra}
use Rattle.json_text.proofs.MemberTexts.{closes_over, closes_filled}
use Rattle.object_print.specs.Metadata.{head_pairs}
use Rattle.object_print.specs.Objects.{class_back, class_data, node_spec, pod_spec, pod_pairs, pod_data, node_pairs, node_data}

abbrev class_head : Class → MemberList
class_head c = head_pairs (codes "storage.k8s.io/v1") (codes "StorageClass") false c.meta

pub closes_class : (c : Class) (w : Writing) → c.extra ≡ []
    → closed 125 (with_all (class_back c) (with_all (head_pairs (codes "storage.k8s.io/v1") (codes "StorageClass") false c.meta) (opened 123 w))) ≡ with_value (class_data c) w
unfolding class_data
closes_class c w none =
    closes (class_head c ++ class_back c) w refl
    ∙ ap (λ ms. with_value (object (put_all (class_head c ++ class_back c) ms)) w) (sym (no_extra c.extra none))

pub closes_full_class : (c : Class) (w : Writing)
    → closed 125 (with_texts (with_options with_member_text (class_back c)
    (with_options with_member_text (head_pairs (codes "storage.k8s.io/v1") (codes "StorageClass") false c.meta)
    (member_texts (extra_members c.extra)))) (opened 123 w)) ≡ with_value (class_data c) w
unfolding class_data
closes_full_class c w = closes_over (class_head c ++ class_back c) (extra_members c.extra) w

on_node : (node : List ℕ) → node_spec node ≡ filled_object (put_all ((codes "nodeName", filled node) ∷ []) no_members)
unfolding put_some
on_node [] = refl
on_node (x ∷ xs) = refl

pub plain_pod_spec : (p : Pod) (w : Writing) → p.extra ≡ [] → with_some (codes "spec") (node_spec p.node) w ≡ with_some (codes "spec") (filled_object (pod_spec p)) w
plain_pod_spec p w none =
    ap (λ o. with_some (codes "spec") o w) (on_node p.node ∙ ap (λ ms. filled_object (put_all ((codes "nodeName", filled p.node) ∷ []) ms)) (sym (no_extra p.extra none)))

pub full_pod_spec : (p : Pod) (w : Writing)
    → with_filled_texts (codes "spec") (with_option with_member_text (codes "nodeName") (filled p.node) (member_texts (extra_members p.extra))) w ≡
    with_some (codes "spec") (filled_object (pod_spec p)) w
full_pod_spec p w = closes_filled ((codes "nodeName", filled p.node) ∷ []) (extra_members p.extra) (codes "spec") w

pub closes_pod : (p : Pod) (w : Writing)
    → closed 125 (with_some (codes "spec") (filled_object (pod_spec p)) (with_all (head_pairs (codes "v1") (codes "Pod") true p.meta) (opened 123 w))) ≡ with_value (pod_data p) w
unfolding pod_data
closes_pod p w = closes (pod_pairs p) w refl

pub no_node_spec : (n : Node) (w : Writing) → n.extra ≡ [] → w ≡ with_some (codes "spec") (filled_object (extra_members n.extra)) w
unfolding with_option
no_node_spec n w none = sym (ap (λ ms. with_some (codes "spec") (filled_object ms) w) (no_extra n.extra none))

pub kept_node_spec : (n : Node) (w : Writing) → with_filled_texts (codes "spec") (member_texts (extra_members n.extra)) w ≡ with_some (codes "spec") (filled_object (extra_members n.extra)) w
kept_node_spec n w = closes_filled [] (extra_members n.extra) (codes "spec") w

pub closes_node : (n : Node) (w : Writing)
    → closed 125 (with_some (codes "spec") (filled_object (extra_members n.extra)) (with_all (head_pairs (codes "v1") (codes "Node") false n.meta) (opened 123 w))) ≡ with_value (node_data n) w
unfolding node_data
closes_node n w = closes (node_pairs n) w refl
