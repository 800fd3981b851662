-- What stands between the brackets of each shape is its data.
use Rattle.std.proofs.Common.{◌≡◌, ℕ, List, [], ◌∷◌, ◌++◌, true, Some, codes, refl, sym, ap, ◌∙◌}
use Rattle.serde_json.specs.Data.{string}
use Rattle.kube_parts.specs.Words.{words_if, mode_words}
use Rattle.kube_parts.specs.declared.parts.Modes.{Modes}
use Rattle.kube_parts.specs.declared.parts.SourceKind.{SourceKind}
use Rattle.kube_parts.specs.declared.parts.SourceKind.TheVariants.{Csi, Nfs, Local, HostPath}
use Rattle.kube_objects.specs.declared.objects.Amount.{Amount}
use Rattle.kube_objects.specs.declared.objects.Ref.{Ref}
use Rattle.kube_objects.specs.declared.objects.Source.{Source}
use Rattle.kube_objects.specs.declared.objects.Expr.{Expr}
use Rattle.kube_objects.specs.declared.objects.Selector.{Selector}
use Rattle.kube_objects.specs.declared.objects.NodeTerms.{NodeTerms}
use Rattle.json_text.specs.Members.{within, items_data, array_data}
use Rattle.object_print.specs.Parts.{
  modes_data,
  storage_pairs,
  storage_data,
  requests_data,
  ref_pairs,
  ref_data,
  source_pairs,
  source_data,
  expr_pairs,
  expr_data,
  term_pairs,
  term_data,
  node_terms_data,
  selector_pairs,
  selector_data,
}
use Rattle.json_text.specs.Writing.{Writing, closed, opened, with_all, with_value, items_after, names_rise, with_some}
use Rattle.json_text.proofs.Closing.{closes, closes_array, closes_within}

pub items_after_append : (xs ys : List (List ℕ)) (w : Writing) → items_after (items_data string (xs ++ ys)) w ≡ items_after (items_data string ys) (items_after (items_data string xs) w)
items_after_append [] ys w = refl
items_after_append (x ∷ xs) ys w = items_after_append xs ys (with_value (string x) w)

pub closes_modes : (m : Modes) (w : Writing)
    → closed 93 (items_after (items_data string (words_if m.rwop (codes "ReadWriteOncePod"))) (items_after (items_data string (words_if m.rwx (codes "ReadWriteMany")))
    (items_after (items_data string (words_if m.rox (codes "ReadOnlyMany"))) (items_after (items_data string (words_if m.rwo (codes "ReadWriteOnce"))) (opened 91 w)))))
    ≡ with_value (modes_data m) w
unfolding modes_data
closes_modes m w =
    let a = words_if m.rwo (codes "ReadWriteOnce") in
    let b = words_if m.rox (codes "ReadOnlyMany") in
    let c = words_if m.rwx (codes "ReadWriteMany") in
    let d = words_if m.rwop (codes "ReadWriteOncePod") in
    ap (closed 93) (sym (items_after_append ((a ++ b) ++ c) d (opened 91 w)
    ∙ ap (items_after (items_data string d)) (items_after_append (a ++ b) c (opened 91 w) ∙ ap (items_after (items_data string c)) (items_after_append a b (opened 91 w)))))
    ∙ closes_array (items_data string (mode_words m)) w

pub closes_storage : (a : Amount) (w : Writing) → closed 125 (with_all (storage_pairs a) (opened 123 w)) ≡ with_value (storage_data a) w
unfolding storage_data
closes_storage a w = closes (storage_pairs a) w refl

pub closes_requests : (a : Amount) (w : Writing) → closed 125 (with_some (codes "requests") (Some (storage_data a)) (opened 123 w)) ≡ with_value (requests_data a) w
unfolding requests_data
closes_requests a w = closes_within (codes "requests") (storage_data a) w

pub closes_ref : (r : Ref) (w : Writing) → closed 125 (with_all (ref_pairs r) (opened 123 w)) ≡ with_value (ref_data r) w
unfolding ref_data
closes_ref r w = closes (ref_pairs r) w refl

source_rises : (kind : SourceKind) (first second : List ℕ) → names_rise (source_pairs kind first second) ≡ true
source_rises Csi first second = refl
source_rises Nfs first second = refl
source_rises Local first second = refl
source_rises HostPath first second = refl

pub closes_source : (s : Source) (w : Writing) → closed 125 (with_all (source_pairs s.kind s.first s.second) (opened 123 w)) ≡ with_value (source_data s) w
unfolding source_data
closes_source s w = closes (source_pairs s.kind s.first s.second) w (source_rises s.kind s.first s.second)

pub closes_expr : (e : Expr) (w : Writing) → closed 125 (with_all (expr_pairs e) (opened 123 w)) ≡ with_value (expr_data e) w
unfolding expr_data
closes_expr e w = closes (expr_pairs e) w refl

pub closes_term : (es : List Expr) (w : Writing) → closed 125 (with_all (term_pairs es) (opened 123 w)) ≡ with_value (term_data es) w
unfolding term_data
closes_term es w = closes (term_pairs es) w refl

pub closes_node_terms : (t : NodeTerms) (w : Writing)
    → closed 125 (with_some (codes "required") (Some (within (codes "nodeSelectorTerms") (array_data term_data t.terms))) (opened 123 w)) ≡ with_value (node_terms_data t) w
unfolding node_terms_data
closes_node_terms t w = closes_within (codes "required") (within (codes "nodeSelectorTerms") (array_data term_data t.terms)) w

pub closes_selector : (s : Selector) (w : Writing) → closed 125 (with_all (selector_pairs s) (opened 123 w)) ≡ with_value (selector_data s) w
unfolding selector_data
closes_selector s w = closes (selector_pairs s) w refl
