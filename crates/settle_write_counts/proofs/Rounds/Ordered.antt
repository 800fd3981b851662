-- Annotations that are in order have a node once.
use Rattle.std.proofs.Common.{◌≡◌, ◌+◌, ◌≤◌, List, [], ◌∷◌, Bool, true, false, Some, None, inl, inr, refl, sym, ap, arith, if◌then◌else◌}
use Rattle.std.proofs.lemmas.Cmp.{nat_list_cmp_total}
use Rattle.std.specs.Ordering.{is_eq}
use Rattle.plain_data.specs.Pairs.{ArePairs, Pair, pair_at, pair_key, text_cmp, without_key}
use Rattle.plain_data.proofs.RowLookups.{find-without}
use Rattle.kube_objects.specs.declared.objects.Claim.{Claim as ClaimData}
use Rattle.kube_objects.specs.declared.objects.Object.{Object}
use Rattle.kube_objects.specs.declared.objects.Object.TheVariants.{Class, Node, Volume, Claim, Pod}
use Rattle.kube_objects.specs.Bindings.{selected_node}
use Rattle.kube_objects.specs.Keys.{key_of}
use Rattle.model_laws.proofs.Lists.{IsIn, none_some}
use Rattle.settle_measure.specs.Left.Measure.{claims_in, total}
use Rattle.settle_measure.proofs.Left.Sums.{stands}
use Rattle.settle_write_counts.specs.Rounds.Counts.{NodesAreFew, nodes_on, one_if, selections_in}

-- where none is found there is none
none_there : (ps : List Pair) → pair_at selected_node ps ≡ None → selections_in ps ≡ 0
none_there [] e = refl
none_there (p ∷ ps) e = by (is_eq (text_cmp (pair_key p) selected_node)) refl e (none_there ps)
  where
    by : (b : Bool) → is_eq (text_cmp (pair_key p) selected_node) ≡ b → (if b then Some p else pair_at selected_node ps) ≡ None
        → (pair_at selected_node ps ≡ None → selections_in ps ≡ 0) → one_if (is_eq (text_cmp (pair_key p) selected_node)) + selections_in ps ≡ 0
    by true is found rest = none_some (sym found)
    by false is found rest = let few = rest found in let none = ap one_if is in omega (arith, few, none)

-- one is taken out at most
one_less : (ps : List Pair) → selections_in ps ≤ selections_in (without_key selected_node ps) + 1
one_less [] = omega arith
one_less (p ∷ ps) = by (is_eq (text_cmp (pair_key p) selected_node)) refl (one_less ps)
  where
    by : (b : Bool) → is_eq (text_cmp (pair_key p) selected_node) ≡ b → selections_in ps ≤ selections_in (without_key selected_node ps) + 1
        → one_if (is_eq (text_cmp (pair_key p) selected_node)) + selections_in ps ≤ selections_in (if b then ps else p ∷ without_key selected_node ps) + 1
    by true is rest = let one_ = ap one_if is in omega (arith, one_)
    by false is rest = omega (arith, rest)

once : (ps : List Pair) → ArePairs ps → selections_in ps ≤ 1
once ps order =
    let less = one_less ps in
    let none = none_there (without_key selected_node ps) (find-without nat_list_cmp_total pair_key selected_node ps order) in
    omega (arith, less, none)

nodes_few : (rows : List Object) → ((c : ClaimData) → IsIn (Claim c) rows → ArePairs c.meta.annotations) → total nodes_on rows ≤ claims_in rows
nodes_few [] each = omega arith
nodes_few (Claim c ∷ os) each = let own = once c.meta.annotations (each c (inl refl)) in let rest = nodes_few os (λ d i. each d (inr i)) in omega (arith, own, rest)
nodes_few (Class x ∷ os) each = let rest = nodes_few os (λ d i. each d (inr i)) in omega (arith, rest)
nodes_few (Node x ∷ os) each = let rest = nodes_few os (λ d i. each d (inr i)) in omega (arith, rest)
nodes_few (Volume x ∷ os) each = let rest = nodes_few os (λ d i. each d (inr i)) in omega (arith, rest)
nodes_few (Pod x ∷ os) each = let rest = nodes_few os (λ d i. each d (inr i)) in omega (arith, rest)

pub nodes_are_few : NodesAreFew
nodes_are_few w order in_order = nodes_few w.store.rows (λ c i. in_order (key_of (Claim c)) c (stands w.store.rows order (Claim c) i))
