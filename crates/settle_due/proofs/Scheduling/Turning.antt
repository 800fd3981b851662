-- The first node that serves a pod's claims in the order of a choice stands behind nodes that do not, in the list of the nodes from the one after the node that was refused last on.
use Rattle.std.proofs.Common.{◌≡◌, ◌∙◌, ℕ, List, [], ◌∷◌, ◌++◌, append_assoc, Bool, true, false, true≢false, Option, Some, None, inl, inr, refl, sym, ap, if◌then◌else◌}
use Rattle.std.specs.Prelude.{cond, filter, not}
use Rattle.std.specs.declared.cmp.Ordering.TheVariants.{Less, Greater}
use Rattle.std.specs.Ordering.{nat_cmp, ordering_reverse, ordering_then}
use Rattle.std.proofs.lemmas.Cmp.{nat_list_cmp_total}
use Rattle.plain_data.specs.Pairs.{text_cmp}
use Rattle.plain_data.specs.Rows.{IsAfter, IsRising}
use Rattle.kube_parts.specs.declared.parts.Kind.TheVariants as kinds
use Rattle.kube_objects.specs.declared.objects.Node.{Node as NodeData}
use Rattle.kube_objects.specs.declared.objects.Pod.{Pod as PodData}
use Rattle.kube_objects.specs.declared.objects.Object.{Object}
use Rattle.kube_objects.specs.declared.objects.Object.TheVariants.{Class, Node, Volume, Claim, Pod}
use Rattle.kube_objects.specs.Keys.{AreRows, key_cmp, key_of, row_at}
use Rattle.binder_model.specs.Choice.{claims_of, nodes_of}
use Rattle.binder_model.specs.ObjectKeys.{node_key}
use Rattle.binder_model.specs.World.{World}
use Rattle.model_laws.proofs.Lists.{IsIn}
use Rattle.model_laws.proofs.Readings.{found_stands, member_stands}
use Rattle.delayed_binding.specs.ChoiceLaw.{HaveNoNamespace}
use Rattle.delayed_binding.specs.Choices.{IsFirstNode, IsThere, ServesClaims, is_past, round_cmp}
use Rattle.delayed_binding.proofs.Dues.{serves_here, serves_there}
use Rattle.delayed_binding.proofs.Known.{Each, each_map}
use Rattle.settle_measure.specs.Left.Tries.{NoneServes, ServesNot, in_turn, is_after}
use Rattle.settle_due.specs.Scheduling.Firsts.{IsFirstServing}

abbrev pub name_of : NodeData → List ℕ
name_of n = n.meta.name

-- the nodes of some rows

abbrev node_or : NodeData → Object → NodeData
node_or n (Node x) = x
node_or n o = n

abbrev is_node : Object → Bool
is_node (Node x) = true
is_node o = false

no_node : {G : Type 0} (o : Object) (n : NodeData) → is_node o ≡ false → o ≡ Node n → G
no_node o n e is = absurd (true≢false (sym (ap is_node is) ∙ e))

pub in_nodes : (n : NodeData) (xs : List Object) → IsIn (Node n) xs → IsIn n (nodes_of xs)
in_nodes n [] there = absurd there
in_nodes n (Node m ∷ xs) (inl is) = inl (ap (node_or n) is)
in_nodes n (Node m ∷ xs) (inr more) = inr (in_nodes n xs more)
in_nodes n (Class x ∷ xs) (inl is) = no_node (Class x) n refl is
in_nodes n (Class x ∷ xs) (inr more) = in_nodes n xs more
in_nodes n (Volume x ∷ xs) (inl is) = no_node (Volume x) n refl is
in_nodes n (Volume x ∷ xs) (inr more) = in_nodes n xs more
in_nodes n (Claim x ∷ xs) (inl is) = no_node (Claim x) n refl is
in_nodes n (Claim x ∷ xs) (inr more) = in_nodes n xs more
in_nodes n (Pod x ∷ xs) (inl is) = no_node (Pod x) n refl is
in_nodes n (Pod x ∷ xs) (inr more) = in_nodes n xs more

-- what holds of each node among the rows
each_node : (Q : NodeData → Type 0) (xs : List Object) → ((n : NodeData) → IsIn (Node n) xs → Q n) → Each Q (nodes_of xs)
each_node Q [] q = tt
each_node Q (Node m ∷ xs) q = (q m (inl refl), each_node Q xs (λ n i. q n (inr i)))
each_node Q (Class x ∷ xs) q = each_node Q xs (λ n i. q n (inr i))
each_node Q (Volume x ∷ xs) q = each_node Q xs (λ n i. q n (inr i))
each_node Q (Claim x ∷ xs) q = each_node Q xs (λ n i. q n (inr i))
each_node Q (Pod x ∷ xs) q = each_node Q xs (λ n i. q n (inr i))

-- their names rise

by_name : (n m : NodeData) → n.meta.namespace ≡ [] → m.meta.namespace ≡ [] → key_cmp (key_of (Node n)) (key_of (Node m)) ≡ text_cmp n.meta.name m.meta.name
by_name n m e f = λ i. key_cmp (record { kind = kinds.Node; namespace = e i; name = n.meta.name }) (record { kind = kinds.Node; namespace = f i; name = m.meta.name })

abbrev pub ArePlain : List Object → Type 0
ArePlain xs = (n : NodeData) → IsIn (Node n) xs → n.meta.namespace ≡ []

after_nodes : (n : NodeData) (xs : List Object) → n.meta.namespace ≡ [] → ArePlain xs → IsAfter key_cmp key_of (Node n) xs → IsAfter text_cmp name_of n (nodes_of xs)
after_nodes n [] e plain after = tt
after_nodes n (Node m ∷ xs) e plain after = (sym (by_name n m e (plain m (inl refl))) ∙ after.0, after_nodes n xs e (λ k i. plain k (inr i)) after.1)
after_nodes n (Class x ∷ xs) e plain after = after_nodes n xs e (λ k i. plain k (inr i)) after.1
after_nodes n (Volume x ∷ xs) e plain after = after_nodes n xs e (λ k i. plain k (inr i)) after.1
after_nodes n (Claim x ∷ xs) e plain after = after_nodes n xs e (λ k i. plain k (inr i)) after.1
after_nodes n (Pod x ∷ xs) e plain after = after_nodes n xs e (λ k i. plain k (inr i)) after.1

pub rising_nodes : (xs : List Object) → ArePlain xs → IsRising key_cmp key_of xs → IsRising text_cmp name_of (nodes_of xs)
rising_nodes [] plain rises = tt
rising_nodes (Node m ∷ xs) plain rises = (after_nodes m xs (plain m (inl refl)) (λ k i. plain k (inr i)) rises.0, rising_nodes xs (λ k i. plain k (inr i)) rises.1)
rising_nodes (Class x ∷ xs) plain rises = rising_nodes xs (λ k i. plain k (inr i)) rises.1
rising_nodes (Volume x ∷ xs) plain rises = rising_nodes xs (λ k i. plain k (inr i)) rises.1
rising_nodes (Claim x ∷ xs) plain rises = rising_nodes xs (λ k i. plain k (inr i)) rises.1
rising_nodes (Pod x ∷ xs) plain rises = rising_nodes xs (λ k i. plain k (inr i)) rises.1

pub after_in : (x n : NodeData) (xs : List NodeData) → IsAfter text_cmp name_of x xs → IsIn n xs → text_cmp x.meta.name n.meta.name ≡ Less
after_in x n [] after there = absurd there
after_in x n (y ∷ ys) after (inl is) = ap (λ (m : NodeData). text_cmp x.meta.name m.meta.name) (sym is) ∙ after.0
after_in x n (y ∷ ys) after (inr more) = after_in x n ys after.1 more

-- what stands before a node among those that pass a test

record IsBefore (Q : NodeData → Type 0) (p : NodeData → Bool) (n b : NodeData) : Type 0 where
  holds : Q b
  passes : p b ≡ true
  less : text_cmp b.meta.name n.meta.name ≡ Less

record IsSplit (Q : NodeData → Type 0) (p : NodeData → Bool) (ns : List NodeData) (n : NodeData) : Type 0 where
  before : List NodeData
  behind : List NodeData
  are : filter p ns ≡ before ++ n ∷ behind
  each : Each (IsBefore Q p n) before

split : (Q : NodeData → Type 0) (p : NodeData → Bool) (ns : List NodeData) (n : NodeData) → IsRising text_cmp name_of ns → Each Q ns → IsIn n ns → p n ≡ true → IsSplit Q p ns n
split Q p [] n rises each there passes = absurd there
split Q p (x ∷ xs) n rises each (inl is) passes =
    record { before = []; behind = filter p xs; are = ap (λ b. cond b (x ∷ filter p xs) (filter p xs)) (ap p is ∙ passes) ∙ ap (λ y. y ∷ filter p xs) is; each = tt }
split Q p (x ∷ xs) n rises each (inr more) passes = by (p x) refl (split Q p xs n rises.1 each.1 more passes)
  where
    by : (b : Bool) → p x ≡ b → IsSplit Q p xs n → IsSplit Q p (x ∷ xs) n
    by true e s = record {
      before = x ∷ s.before;
      behind = s.behind;
      are = ap (λ b. cond b (x ∷ filter p xs) (filter p xs)) e ∙ ap (λ ys. x ∷ ys) s.are;
      each = (record { holds = each.0; passes = e; less = after_in x n xs rises.0 more }, s.each);
    }
    by false e s = record { before = s.before; behind = s.behind; are = ap (λ b. cond b (x ∷ filter p xs) (filter p xs)) e ∙ s.are; each = s.each }

all_kept : (ns : List NodeData) → filter (λ n. true) ns ≡ ns
all_kept [] = refl
all_kept (n ∷ ns) = ap (λ xs. n ∷ xs) (all_kept ns)

each_passing : (Q : NodeData → Type 0) (p : NodeData → Bool) (ns : List NodeData) → Each Q ns → Each (λ n. Q n × (p n ≡ true)) (filter p ns)
each_passing Q p [] each = tt
each_passing Q p (x ∷ xs) each = by (p x) refl (each_passing Q p xs each.1)
  where
    by : (b : Bool) → p x ≡ b → Each (λ n. Q n × (p n ≡ true)) (filter p xs) → Each (λ n. Q n × (p n ≡ true)) (cond b (x ∷ filter p xs) (filter p xs))
    by true e rest = ((each.0, e), rest)
    by false e rest = rest

each_both : (Q : NodeData → Type 0) (xs ys : List NodeData) → Each Q xs → Each Q ys → Each Q (xs ++ ys)
each_both Q [] ys a b = b
each_both Q (x ∷ xs) ys a b = (a.0, each_both Q xs ys a.1 b)

-- the order of a choice

later_within : (last : Option (List ℕ)) (n b : NodeData) (turn : Bool) → is_past last n ≡ turn → is_past last b ≡ turn → text_cmp b.meta.name n.meta.name ≡ Less → round_cmp last n b ≡ Greater
later_within last n b turn en eb less = by (is_past last n) (is_past last b) turn en eb ∙ (nat_list_cmp_total.antisymm n.meta.name b.meta.name ∙ ap ordering_reverse less)
  where
    by : (x y z : Bool) → x ≡ z → y ≡ z → ordering_then (nat_cmp (if x then 0 else 1) (if y then 0 else 1)) (text_cmp n.meta.name b.meta.name) ≡ text_cmp n.meta.name b.meta.name
    by true true z e f = refl
    by false false z e f = refl
    by true false z e f = absurd (true≢false (e ∙ sym f))
    by false true z e f = absurd (true≢false (f ∙ sym e))

later_across : (last : Option (List ℕ)) (n b : NodeData) → is_past last n ≡ false → is_past last b ≡ true → round_cmp last n b ≡ Greater
later_across last n b en eb = by (is_past last n) (is_past last b) en eb
  where
    by : (x y : Bool) → x ≡ false → y ≡ true → ordering_then (nat_cmp (if x then 0 else 1) (if y then 0 else 1)) (text_cmp n.meta.name b.meta.name) ≡ Greater
    by false true e f = refl
    by true y e f = absurd (true≢false e)
    by false false e f = absurd (true≢false (sym f))

module _ (w : World) (order : AreRows w.store.rows) (plain : HaveNoNamespace w.store.rows) (p : PodData) (last : Option (List ℕ)) (node : NodeData)
    (first : IsFirstNode w.store.rows last (ServesClaims w.store.rows (claims_of w.store.rows p)) node) where
  abbrev nodes : List NodeData
  nodes = nodes_of w.store.rows

  are_plain : ArePlain w.store.rows
  are_plain n i = plain.nodes (key_of (Node n)) n (member_stands (Node n) w.store.rows order i)

  stand : Each (IsThere w.store.rows) nodes
  stand = each_node (IsThere w.store.rows) w.store.rows
      (λ n i. ap (λ s. row_at (record { kind = kinds.Node; namespace = s; name = n.meta.name }) w.store.rows) (sym (are_plain n i)) ∙ member_stands (Node n) w.store.rows order i)

  rises : IsRising text_cmp name_of nodes
  rises = rising_nodes w.store.rows are_plain order

  there : IsIn node nodes
  there = in_nodes node w.store.rows (found_stands (node_key node.meta.name) (Node node) w.store.rows first.there)

  -- a node that comes before it does not serve
  serves_not : (b : NodeData) → IsThere w.store.rows b → round_cmp last node b ≡ Greater → ServesNot w p b
  serves_not b at after shares serves = first.first b at (shares, serves_here w.store.rows order plain p b shares serves) after

  none_serve : (ns : List NodeData) → Each (ServesNot w p) ns → NoneServes w p ns
  none_serve [] each = tt
  none_serve (n ∷ ns) each = (each.0, none_serve ns each.1)

  serving : (before behind : List NodeData) → in_turn last nodes ≡ before ++ node ∷ behind → Each (ServesNot w p) before → IsFirstServing w p last node
  serving before behind are each = record {
    before = before;
    behind = behind;
    are = are;
    none = none_serve before each;
    shares = first.holds.0;
    serves = serves_there w.store.rows order plain p node first.holds.0 first.holds.1;
  }

pub first_serving : (w : World) → AreRows w.store.rows → HaveNoNamespace w.store.rows → (p : PodData) (last : Option (List ℕ)) (node : NodeData)
    → IsFirstNode w.store.rows last (ServesClaims w.store.rows (claims_of w.store.rows p)) node → IsFirstServing w p last node
first_serving w order plain p None node first =
    let nodes = nodes_of w.store.rows in
    let s = split (IsThere w.store.rows) (λ n. true) nodes node (rises w order plain p None node first) (stand w order plain p None node first) (there w order plain p None node first) refl in
    serving w order plain p None node first s.before s.behind (sym (all_kept nodes) ∙ s.are)
    (each_map (λ b x. serves_not w order plain p None node first b x.holds (later_within None node b true refl refl x.less)) s.before s.each)
first_serving w order plain p (Some refused) node first = by (is_after refused node) refl
  where
    no : (b : Bool) → not b ≡ true → b ≡ false
    no true e = sym e
    no false e = refl

    by : (b : Bool) → is_after refused node ≡ b → IsFirstServing w p (Some refused) node
    by true e =
        let ns = nodes_of w.store.rows in
        let others = filter (λ n. not (is_after refused n)) ns in
        let s = split (IsThere w.store.rows) (is_after refused) ns node (rises w order plain p (Some refused) node first)
        (stand w order plain p (Some refused) node first) (there w order plain p (Some refused) node first) e in
        serving w order plain p (Some refused) node first s.before (s.behind ++ others) (ap (λ xs. xs ++ others) s.are ∙ append_assoc s.before (node ∷ s.behind) others)
        (each_map (λ b x. serves_not w order plain p (Some refused) node first b x.holds (later_within (Some refused) node b true e x.passes x.less)) s.before s.each)
    by false e =
        let ns = nodes_of w.store.rows in
        let ahead = filter (is_after refused) ns in
        let there_ = stand w order plain p (Some refused) node first in
        let s = split (IsThere w.store.rows) (λ n. not (is_after refused n)) ns node (rises w order plain p (Some refused) node first) there_
        (there w order plain p (Some refused) node first) (ap not e) in
        serving w order plain p (Some refused) node first (ahead ++ s.before) s.behind (ap (λ xs. ahead ++ xs) s.are ∙ sym (append_assoc ahead s.before (node ∷ s.behind)))
        (each_both (ServesNot w p) ahead s.before
        (each_map (λ b x. serves_not w order plain p (Some refused) node first b x.0 (later_across (Some refused) node b e x.1)) ahead
        (each_passing (IsThere w.store.rows) (is_after refused) ns there_))
        (each_map (λ b x. serves_not w order plain p (Some refused) node first b x.holds (later_within (Some refused) node b false e (no (is_after refused b) x.passes) x.less)) s.before s.each))
