-- How many nodes are left to be tried does not rest on versions, nor on the nodes of claims.
use Rattle.std.proofs.Common.{◌≡◌, ◌∙◌, ℕ, List, [], ◌∷◌, ◌++◌, Bool, true, false, Option, Some, None, inl, inr, refl, sym, ap, subst}
use Rattle.std.specs.Prelude.{filter, map, not}
use Rattle.kube_parts.specs.declared.parts.Kind.TheVariants as kinds
use Rattle.kube_objects.specs.declared.objects.Node.{Node as NodeData}
use Rattle.kube_objects.specs.declared.objects.Pod.{Pod as PodData}
use Rattle.kube_objects.specs.declared.objects.Object.{Object}
use Rattle.kube_objects.specs.declared.objects.Object.TheVariants.{Class, Node, Volume, Claim, Pod}
use Rattle.kube_objects.specs.Keys.{rows_of}
use Rattle.call_types.specs.declared.setup.Setup.{Setup}
use Rattle.binder_model.specs.Choice.{node_in, nodes_of}
use Rattle.binder_model.specs.World.{World}
use Rattle.settle_measure.specs.Left.Tries.{IsOn, ServesNot, Tries, TriesLeft, in_turn, is_after}
use Rattle.settle_alike.proofs.Alike.Rows.{filter_mapped, plain_node, plain_pod}
use Rattle.settle_alike.specs.Near.Near.{rests_of}
use Rattle.settle_alike.proofs.Near.Rows.{rest_world, rows_rest}
use Rattle.settle_alike.proofs.Near.Serving.{all_given, serves_from, serves_to}
use Rattle.std.specs.List.{filter_map}

map_append : {X Y : Type 0} (f : X → Y) (xs ys : List X) → map f (xs ++ ys) ≡ map f xs ++ map f ys
map_append f [] ys = refl
map_append f (x ∷ xs) ys = ap (λ zs. f x ∷ zs) (map_append f xs ys)

turn_rest : (refused : Option (List ℕ)) (ns : List NodeData) → in_turn refused (map plain_node ns) ≡ map plain_node (in_turn refused ns)
turn_rest None ns = refl
turn_rest (Some refused) ns =
    let behind = filter_mapped plain_node (is_after refused) (is_after refused) (λ n. refl) ns in
    let before = filter_mapped plain_node (λ n. not (is_after refused n)) (λ n. not (is_after refused n)) (λ n. refl) ns in
    (λ i. behind i ++ before i) ∙ sym (map_append plain_node (filter (is_after refused) ns) (filter (λ n. not (is_after refused n)) ns))

nodes_in : (os : List Object) → filter_map node_in (rests_of os) ≡ map plain_node (filter_map node_in os)
nodes_in [] = refl
nodes_in (Node n ∷ os) = ap (λ ns. plain_node n ∷ ns) (nodes_in os)
nodes_in (Class x ∷ os) = nodes_in os
nodes_in (Volume x ∷ os) = nodes_in os
nodes_in (Claim x ∷ os) = nodes_in os
nodes_in (Pod x ∷ os) = nodes_in os

pub nodes_rest : (rows : List Object) → nodes_of (rests_of rows) ≡ map plain_node (nodes_of rows)
nodes_rest rows = ap (filter_map node_in) (rows_rest kinds.Node rows) ∙ nodes_in (rows_of kinds.Node rows)

module _ (setup : Setup) (w : World) (p : PodData) where
  on_to : (given : Bool) (n : NodeData) → IsOn setup w p given n → IsOn setup (rest_world w) (plain_pod p) given (plain_node n)
  on_to given n on = record { shares = on.shares; serves = serves_to w p n on.shares on.serves; given_is = all_given setup w p n on.shares ∙ on.given_is }

  on_from : (given : Bool) (n : NodeData) → IsOn setup (rest_world w) (plain_pod p) given (plain_node n) → IsOn setup w p given n
  on_from given n on = record { shares = on.shares; serves = serves_from w p n on.shares on.serves; given_is = sym (all_given setup w p n on.shares) ∙ on.given_is }

  not_to : (n : NodeData) → ServesNot w p n → ServesNot (rest_world w) (plain_pod p) (plain_node n)
  not_to n none = λ shares s. none shares (serves_from w p n shares s)

  not_from : (n : NodeData) → ServesNot (rest_world w) (plain_pod p) (plain_node n) → ServesNot w p n
  not_from n none = λ shares s. none shares (serves_to w p n shares s)

  tries_to : (ns : List NodeData) (k : ℕ) → Tries setup w p ns k → Tries setup (rest_world w) (plain_pod p) (map plain_node ns) k
  tries_to [] k t = t
  tries_to (n ∷ ns) k (inl t) = inl (not_to n t.0, tries_to ns k t.1)
  tries_to (n ∷ ns) k (inr (inl t)) = inr (inl (on_to true n t.0, t.1))
  tries_to (n ∷ ns) k (inr (inr t)) = inr (inr (on_to false n t.0, (t.1.0, (t.1.1.0, tries_to ns t.1.0 t.1.1.1))))

  tries_from : (ns : List NodeData) (k : ℕ) → Tries setup (rest_world w) (plain_pod p) (map plain_node ns) k → Tries setup w p ns k
  tries_from [] k t = t
  tries_from (n ∷ ns) k (inl t) = inl (not_from n t.0, tries_from ns k t.1)
  tries_from (n ∷ ns) k (inr (inl t)) = inr (inl (on_from true n t.0, t.1))
  tries_from (n ∷ ns) k (inr (inr t)) = inr (inr (on_from false n t.0, (t.1.0, (t.1.1.0, tries_from ns t.1.0 t.1.1.1))))

  turned : (refused : Option (List ℕ)) → in_turn refused (nodes_of (rests_of w.store.rows)) ≡ map plain_node (in_turn refused (nodes_of w.store.rows))
  turned refused = ap (in_turn refused) (nodes_rest w.store.rows) ∙ turn_rest refused (nodes_of w.store.rows)

  pub left_to : (refused : Option (List ℕ)) (k : ℕ) → TriesLeft setup w p refused k → TriesLeft setup (rest_world w) (plain_pod p) refused k
  left_to refused k t = subst (λ ns. Tries setup (rest_world w) (plain_pod p) ns k) (sym (turned refused)) (tries_to (in_turn refused (nodes_of w.store.rows)) k t)

  pub left_from : (refused : Option (List ℕ)) (k : ℕ) → TriesLeft setup (rest_world w) (plain_pod p) refused k → TriesLeft setup w p refused k
  left_from refused k t = tries_from (in_turn refused (nodes_of w.store.rows)) k (subst (λ ns. Tries setup (rest_world w) (plain_pod p) ns k) (turned refused) t)
