-- Names in order differ, so no two actors of a script's drains are agents of one node.
use Rattle.std.proofs.Common.{◌≡◌, ◌∙◌, ℕ, zero, suc, List, [], ◌∷◌, Some, refl, sym, ap, subst}
use Rattle.std.specs.declared.cmp.Ordering.TheVariants.{Less, Equal}
use Rattle.std.specs.Prelude.{slice_get}
use Rattle.std.proofs.lemmas.Cmp.{nat_list_cmp_total, tied_itself}
use Rattle.plain_data.specs.Pairs.{text_cmp}
use Rattle.plain_data.specs.Rows.{IsAfter}
use Rattle.model_laws.proofs.Lists.{none_some, one}
use Rattle.actor_rounds.specs.Drainers.{roles_for}
use Rattle.script_runs.specs.Limits.{NamesAreInOrder}
use Rattle.settle_budget.specs.Drains.Rounds.{AreNodesApart}
use Rattle.settle_budget.proofs.Drains.Fresh.{agents_apart}

after_at : (name other : List ℕ) (names : List (List ℕ)) (place : ℕ) → IsAfter text_cmp (λ (n : List ℕ). n) name names → slice_get names place ≡ Some other → text_cmp name other ≡ Less
after_at name other [] place after at = none_some at
after_at name other (n ∷ names) zero after at = ap (text_cmp name) (sym (one n other at)) ∙ after.0
after_at name other (n ∷ names) (suc place) after at = after_at name other names place after.1 at

not_after : (name : List ℕ) → text_cmp name name ≡ Less → ⊥
not_after name less = let both : Less ≡ Equal = sym less ∙ tied_itself nat_list_cmp_total name in absurd (cc)

names_differ : (names : List (List ℕ)) → NamesAreInOrder names → (i j : ℕ) (node : List ℕ) → slice_get names i ≡ Some node → slice_get names j ≡ Some node → i ≡ j
names_differ [] order i j node a b = none_some a
names_differ (n ∷ names) order zero zero node a b = refl
names_differ (n ∷ names) order zero (suc j) node a b = absurd (not_after node (subst (λ x. text_cmp x node ≡ Less) (one n node a) (after_at n node names j order.0 b)))
names_differ (n ∷ names) order (suc i) zero node a b = absurd (not_after node (subst (λ x. text_cmp x node ≡ Less) (one n node b) (after_at n node names i order.0 a)))
names_differ (n ∷ names) order (suc i) (suc j) node a b = ap suc (names_differ names order.1 i j node a b)

pub nodes_apart : (nodes : List (List ℕ)) → NamesAreInOrder nodes → AreNodesApart (roles_for nodes)
nodes_apart nodes order = agents_apart nodes (names_differ nodes order)
