-- From the node that was tried last on, the nodes stand in turn behind it, then those before it, then it: so one less is to be tried.
use Rattle.std.proofs.Common.{◌≡◌, ◌∙◌, ◌⊎◌, ℕ, List, [], ◌∷◌, ◌++◌, append_assoc, Bool, true, false, true≢false, Option, Some, None, inl, inr, refl, sym, ap, subst}
use Rattle.std.specs.Prelude.{cond, filter, not}
use Rattle.std.specs.declared.cmp.Ordering.{Ordering}
use Rattle.std.specs.declared.cmp.Ordering.TheVariants.{Less, Equal, Greater}
use Rattle.std.specs.Ordering.{is_gt, ordering_reverse}
use Rattle.std.proofs.lemmas.Cmp.{nat_list_cmp_total, tied_itself}
use Rattle.plain_data.specs.Pairs.{text_cmp}
use Rattle.plain_data.specs.Rows.{IsRising}
use Rattle.kube_objects.specs.declared.objects.Node.{Node as NodeData}
use Rattle.kube_objects.specs.declared.objects.Pod.{Pod as PodData}
use Rattle.kube_objects.specs.declared.objects.Object.TheVariants.{Node}
use Rattle.kube_objects.specs.Keys.{AreRows, key_of}
use Rattle.call_types.specs.declared.setup.Setup.{Setup}
use Rattle.binder_model.specs.Choice.{nodes_of, others_of}
use Rattle.binder_model.specs.Due.{shares_are_served}
use Rattle.binder_model.specs.ObjectKeys.{node_key}
use Rattle.binder_model.specs.World.{World, world}
use Rattle.model_laws.proofs.Histories.{rows_stand_in_order}
use Rattle.model_laws.proofs.Lists.{IsIn, some_left, some_right}
use Rattle.model_laws.proofs.Readings.{found_stands, member_stands}
use Rattle.delayed_binding.specs.ChoiceLaw.{HaveNoNamespace}
use Rattle.delayed_binding.specs.Choices.{set_aside}
use Rattle.delayed_binding.proofs.Bests.{set_aside_is}
use Rattle.delayed_binding.proofs.Dues.{serves_here}
use Rattle.delayed_binding.proofs.Sharing.{one_sharing}
use Rattle.settle_check.proofs.Placed.{none_in_a_namespace}
use Rattle.settle_measure.specs.Left.Tries.{IsOn, NoneServes, OneLess, SharesAreOne, SomeGives, Tries, in_turn, is_after}
use Rattle.settle_measure.proofs.Left.Trying.{refused_node_is_tried}
use Rattle.settle_due.specs.Scheduling.Firsts.{OneNodeLess}
use Rattle.settle_due.proofs.Scheduling.Turning.{ArePlain, after_in, in_nodes, name_of, rising_nodes}

-- two lists together, where they are known to have an element behind some others

record InFirst {X : Type 0} (xs ys before : List X) (n : X) (behind : List X) : Type 0 where
  rest : List X
  first : xs ≡ before ++ n ∷ rest
  second : behind ≡ rest ++ ys

record InSecond {X : Type 0} (xs ys before : List X) (n : X) (behind : List X) : Type 0 where
  rest : List X
  second : ys ≡ rest ++ n ∷ behind
  first : before ≡ xs ++ rest

abbrev head_or : {X : Type 0} → X → List X → X
head_or x [] = x
head_or x (y ∷ ys) = y

abbrev tail_of : {X : Type 0} → List X → List X
tail_of [] = []
tail_of (x ∷ xs) = xs

in_one : {X : Type 0} (xs ys before : List X) (n : X) (behind : List X) → xs ++ ys ≡ before ++ n ∷ behind → InFirst xs ys before n behind ⊎ InSecond xs ys before n behind
in_one [] ys before n behind e = inr (record { rest = before; second = e; first = refl })
in_one (x ∷ xs) ys [] n behind e = inl (record { rest = xs; first = ap (λ y. y ∷ xs) (ap (head_or n) e); second = sym (ap tail_of e) })
in_one {X} (x ∷ xs) ys (b ∷ before) n behind e = by (in_one xs ys before n behind (ap tail_of e))
  where
    same : x ≡ b
    same = ap (head_or x) e

    by : InFirst xs ys before n behind ⊎ InSecond xs ys before n behind → InFirst (x ∷ xs) ys (b ∷ before) n behind ⊎ InSecond (x ∷ xs) ys (b ∷ before) n behind
    by (inl f) = inl (record { rest = f.rest; first = (λ i. same i ∷ f.first i); second = f.second })
    by (inr s) = inr (record { rest = s.rest; second = s.second; first = (λ i. (sym same) i ∷ s.first i) })

-- names that rise

not_after : (n m : NodeData) → text_cmp m.meta.name n.meta.name ≡ Less → is_after n.meta.name m ≡ false
not_after n m less = ap is_gt less

not_itself : (n : NodeData) → is_after n.meta.name n ≡ false
not_itself n = ap is_gt (tied_itself nat_list_cmp_total n.meta.name)

comes_after : (n m : NodeData) → text_cmp n.meta.name m.meta.name ≡ Less → is_after n.meta.name m ≡ true
comes_after n m less = ap is_gt (nat_list_cmp_total.antisymm m.meta.name n.meta.name ∙ ap ordering_reverse less)

-- behind a node all come after it
all_after : (refused : List ℕ) (xs : List NodeData) → ((m : NodeData) → IsIn m xs → is_after refused m ≡ true) → (filter (is_after refused) xs ≡ xs) × (filter (λ m. not (is_after refused m)) xs ≡ [])
all_after refused [] after = (refl, refl)
all_after refused (x ∷ xs) after =
    let rest = all_after refused xs (λ m i. after m (inr i)) in
    let here = after x (inl refl) in (
      ap (λ b. cond b (x ∷ filter (is_after refused) xs) (filter (is_after refused) xs)) here ∙ ap (λ ys. x ∷ ys) rest.0,
      ap (λ b. cond (not b) (x ∷ filter (λ m. not (is_after refused m)) xs) (filter (λ m. not (is_after refused m)) xs)) here ∙ rest.1,
    )

-- the nodes after one that stands in order, and the others
cut_at : (xs : List NodeData) (n : NodeData) (ys : List NodeData) → IsRising text_cmp name_of (xs ++ n ∷ ys)
    → (filter (is_after n.meta.name) (xs ++ n ∷ ys) ≡ ys) × (filter (λ m. not (is_after n.meta.name m)) (xs ++ n ∷ ys) ≡ xs ++ n ∷ [])
cut_at [] n ys rises =
    let behind = all_after n.meta.name ys (λ m i. comes_after n m (after_in n m ys rises.0 i)) in (
      ap (λ b. cond b (n ∷ filter (is_after n.meta.name) ys) (filter (is_after n.meta.name) ys)) (not_itself n) ∙ behind.0,
      ap (λ b. cond (not b) (n ∷ filter (λ m. not (is_after n.meta.name m)) ys) (filter (λ m. not (is_after n.meta.name m)) ys)) (not_itself n) ∙ ap (λ zs. n ∷ zs) behind.1,
    )
cut_at (x ∷ xs) n ys rises =
    let rest = cut_at xs n ys rises.1 in
    let here = not_after n x (after_in x n (xs ++ n ∷ ys) rises.0 (some_right (λ y. y ≡ n) xs (n ∷ ys) (inl refl))) in (
      ap (λ b. cond b (x ∷ filter (is_after n.meta.name) (xs ++ n ∷ ys)) (filter (is_after n.meta.name) (xs ++ n ∷ ys))) here ∙ rest.0,
      ap (λ b. cond (not b) (x ∷ filter (λ m. not (is_after n.meta.name m)) (xs ++ n ∷ ys)) (filter (λ m. not (is_after n.meta.name m)) (xs ++ n ∷ ys))) here ∙ ap (λ zs. x ∷ zs) rest.1,
    )

-- those that are not after a name come first
cut_by : (refused : List ℕ) (ns : List NodeData) → IsRising text_cmp name_of ns → filter (λ m. not (is_after refused m)) ns ++ filter (is_after refused) ns ≡ ns
cut_by refused [] rises = refl
cut_by refused (x ∷ xs) rises = by (is_after refused x) refl (cut_by refused xs rises.1)
  where
    above : is_after refused x ≡ true → (m : NodeData) → IsIn m xs → is_after refused m ≡ true
    above e m i = higher (text_cmp x.meta.name refused) refl e
      where
        less : text_cmp x.meta.name m.meta.name ≡ Less
        less = after_in x m xs rises.0 i

        higher : (o : Ordering) → text_cmp x.meta.name refused ≡ o → is_gt o ≡ true → is_after refused m ≡ true
        higher Less o e = absurd (true≢false (sym e))
        higher Equal o e = absurd (true≢false (sym e))
        higher Greater o e =
            let under : text_cmp refused x.meta.name ≡ Less = nat_list_cmp_total.antisymm refused x.meta.name ∙ ap ordering_reverse o in
            ap is_gt (nat_list_cmp_total.antisymm m.meta.name refused ∙ ap ordering_reverse (nat_list_cmp_total.trans refused x.meta.name m.meta.name under less))

    by : (b : Bool) → is_after refused x ≡ b → filter (λ m. not (is_after refused m)) xs ++ filter (is_after refused) xs ≡ xs
        → cond (not b) (x ∷ filter (λ m. not (is_after refused m)) xs) (filter (λ m. not (is_after refused m)) xs) ++ cond b (x ∷ filter (is_after refused) xs) (filter (is_after refused) xs) ≡ x ∷ xs
    by true e rest = let all = all_after refused xs (above e) in (λ i. all.1 i ++ (x ∷ all.0 i))
    by false e rest = ap (λ ys. x ∷ ys) rest

-- the turn from a node on
turns_on : (refused : Option (List ℕ)) (ns before : List NodeData) (n : NodeData) (behind : List NodeData) → IsRising text_cmp name_of ns
    → in_turn refused ns ≡ before ++ n ∷ behind → in_turn (Some n.meta.name) ns ≡ behind ++ (before ++ n ∷ [])
turns_on refused ns before n behind rises are = by refused are
  where
    cut : (xs ys : List NodeData) → ns ≡ xs ++ n ∷ ys → in_turn (Some n.meta.name) ns ≡ ys ++ (xs ++ n ∷ [])
    cut xs ys e =
        let parts = cut_at xs n ys (subst (IsRising text_cmp name_of) e rises) in
        ap (in_turn (Some n.meta.name)) e ∙ (λ i. parts.0 i ++ parts.1 i)

    by : (r : Option (List ℕ)) → in_turn r ns ≡ before ++ n ∷ behind → in_turn (Some n.meta.name) ns ≡ behind ++ (before ++ n ∷ [])
    by None e = cut before behind e
    by (Some r) e = found (in_one (filter (is_after r) ns) (filter (λ m. not (is_after r m)) ns) before n behind e)
      where
        found : InFirst (filter (is_after r) ns) (filter (λ m. not (is_after r m)) ns) before n behind
            ⊎ InSecond (filter (is_after r) ns) (filter (λ m. not (is_after r m)) ns) before n behind → in_turn (Some n.meta.name) ns ≡ behind ++ (before ++ n ∷ [])
        found (inl f) =
            let low = filter (λ m. not (is_after r m)) ns in
            cut (low ++ before) f.rest (sym (cut_by r ns rises) ∙ (ap (λ xs. low ++ xs) f.first ∙ sym (append_assoc low before (n ∷ f.rest))))
            ∙ (ap (λ xs. f.rest ++ xs) (append_assoc low before (n ∷ [])) ∙ (sym (append_assoc f.rest low (before ++ n ∷ [])) ∙ ap (λ xs. xs ++ (before ++ n ∷ [])) (sym f.second)))
        found (inr s) =
            let high = filter (is_after r) ns in
            cut s.rest (behind ++ high) (sym (cut_by r ns rises) ∙ (ap (λ xs. xs ++ high) s.second ∙ append_assoc s.rest (n ∷ behind) high))
            ∙ (append_assoc behind high (s.rest ++ n ∷ []) ∙ (ap (λ xs. behind ++ xs) (sym (append_assoc high s.rest (n ∷ []))) ∙ ap (λ xs. behind ++ (xs ++ n ∷ [])) (sym s.first)))

-- the nodes in turn are the nodes

pub in_passing : {X : Type 0} (p : X → Bool) (m : X) (ns : List X) → IsIn m ns → p m ≡ true → IsIn m (filter p ns)
in_passing p m [] there e = absurd there
in_passing p m (x ∷ xs) (inl is) e = subst (λ b. IsIn m (cond b (x ∷ filter p xs) (filter p xs))) (sym (ap p is ∙ e)) (inl is)
in_passing p m (x ∷ xs) (inr more) e = by (p x) (in_passing p m xs more e)
  where
    by : (b : Bool) → IsIn m (filter p xs) → IsIn m (cond b (x ∷ filter p xs) (filter p xs))
    by true i = inr i
    by false i = i

pub all_in_turn : (refused : Option (List ℕ)) (m : NodeData) (ns : List NodeData) → IsIn m ns → IsIn m (in_turn refused ns)
all_in_turn None m ns there = there
all_in_turn (Some r) m ns there = by (is_after r m) refl
  where
    by : (b : Bool) → is_after r m ≡ b → IsIn m (in_turn (Some r) ns)
    by true e = some_left (λ y. y ≡ m) (filter (is_after r) ns) (filter (λ x. not (is_after r x)) ns) (in_passing (is_after r) m ns there e)
    by false e = some_right (λ y. y ≡ m) (filter (is_after r) ns) (filter (λ x. not (is_after r x)) ns) (in_passing (λ x. not (is_after r x)) m ns there (ap not e))

-- a node that gives stands behind one that serves and cannot give, where none serves before
some_gives : (setup : Setup) (w : World) (p : PodData) → SharesAreOne w p
    → (before : List NodeData) (n : NodeData) (behind : List NodeData) (m : NodeData) → NoneServes w p before → IsOn setup w p false n
    → IsOn setup w p true m → IsIn m (before ++ n ∷ behind) → SomeGives setup w p behind
some_gives setup w p one [] n behind m none on gives (inl is) =
    let there = subst (λ x. IsOn setup w p true x) (sym is) gives in
    absurd (true≢false (sym there.given_is ∙ (ap (shares_are_served setup w n (others_of w.store.rows p)) (one n there.shares on.shares there.serves on.serves) ∙ on.given_is)))
some_gives setup w p one [] n behind m none on gives (inr more) = given behind more
  where
    given : (ns : List NodeData) → IsIn m ns → SomeGives setup w p ns
    given [] i = absurd i
    given (x ∷ xs) (inl is) = inl (subst (λ y. IsOn setup w p true y) (sym is) gives)
    given (x ∷ xs) (inr i) = inr (given xs i)
some_gives setup w p one (b ∷ before) n behind m none on gives (inl is) =
    let there = subst (λ x. IsOn setup w p true x) (sym is) gives in
    absurd (none.0 there.shares there.serves)
some_gives setup w p one (b ∷ before) n behind m none on gives (inr more) = some_gives setup w p one before n behind m none.1 on gives more

shares_are_one : (w : World) → AreRows w.store.rows → HaveNoNamespace w.store.rows → (p : PodData) → SharesAreOne w p
shares_are_one w order plain p n a b s t =
    one_sharing w.store.rows n order (others_of w.store.rows p) (set_aside w.store.rows) a b (set_aside_is w.store.rows)
    (serves_here w.store.rows order plain p n a s).shared (serves_here w.store.rows order plain p n b t).shared

pub one_node_less : OneNodeLess
one_node_less setup past p refused node k pass can first on tries =
    let w = world setup past in
    let order = rows_stand_in_order setup past in
    let plain = none_in_a_namespace setup pass past in
    let one = shares_are_one w order plain p in
    let are_plain : ArePlain w.store.rows = λ n i. plain.nodes (key_of (Node n)) n (member_stands (Node n) w.store.rows order i) in
    let rises = rising_nodes w.store.rows are_plain order in
    let there = all_in_turn refused can.node (nodes_of w.store.rows) (in_nodes can.node w.store.rows (found_stands (node_key can.node.meta.name) (Node can.node) w.store.rows can.there)) in
    let gives : IsOn setup w p true can.node = record { shares = can.shares; serves = can.serves; given_is = can.given } in
    let some = some_gives setup w p one first.before node first.behind can.node first.none on gives (subst (IsIn can.node) first.are there) in
    let less = refused_node_is_tried setup w p first.before node first.behind k one first.none on some (subst (λ ns. Tries setup w p ns k) first.are tries) in
    subst (λ ns. OneLess setup w p ns k) (sym (turns_on refused (nodes_of w.store.rows) first.before node first.behind rises first.are)) less
