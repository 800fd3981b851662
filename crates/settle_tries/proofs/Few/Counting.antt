-- How many nodes are to be tried: no more than there are agents; and the tries are there, though nothing finds them.
use Rattle.std.proofs.Common.{◌≡◌, ◌≢◌, ◌∙◌, ℕ, zero, suc, ◌+◌, ◌≤◌, ◌<◌, List, [], ◌∷◌, ◌++◌, Bool, true, false, true≢false, Option, Some, None, inl, inr, refl, sym, ap, subst, arith}
use Rattle.std.specs.Prelude.{cond, filter, length, map, nat_lt, not, slice_get}
use Rattle.std.specs.declared.cmp.Ordering.TheVariants.{Less}
use Rattle.std.specs.Ordering.{is_eq}
use Rattle.std.proofs.lemmas.Cmp.{nat_list_cmp_total, tied_itself}
use Rattle.plain_data.specs.Pairs.{text_cmp}
use Rattle.plain_data.specs.Rows.{IsAfter, IsRising}
use Rattle.kube_objects.specs.declared.objects.Node.{Node as NodeData}
use Rattle.kube_objects.specs.declared.objects.Pod.{Pod as PodData}
use Rattle.call_types.specs.declared.request.SeatKind.{SeatKind}
use Rattle.call_types.specs.declared.request.SeatKind.TheVariants as seats
use Rattle.call_types.specs.declared.setup.Setup.{Setup}
use Rattle.binder_model.specs.Choice.{others_of}
use Rattle.binder_model.specs.Due.{shares_are_served}
use Rattle.binder_model.specs.World.{World}
use Rattle.model_laws.proofs.Lists.{IsIn, none_some, one}
use Rattle.settle_measure.specs.Left.Tries.{IsOn, ServesNot, Tries, in_turn, is_after}
use Rattle.worker_core.specs.declared.role.Role.{Role}
use Rattle.actor_rounds.specs.Drainers.{agent_of, of_kind, roles_for}
use Rattle.settle_progress.proofs.Drains.Rounds.{is_agent}
use Rattle.std.proofs.lemmas.Bool.Decides.{nat_tests}

-- ---- a number is at most another where it cannot fail to be

pub at_most : (a b : ℕ) → ((a ≤ b → ⊥) → ⊥) → a ≤ b
at_most a b never = by (nat_lt b a) refl
  where
    by : (t : Bool) → nat_lt b a ≡ t → a ≤ b
    by true e = let more : b < a = grind (arith, nat_tests, e) in absurd (never (λ le. absurd (omega (arith, le, more))))
    by false e = grind (arith, nat_tests, e)

-- ---- tries

module _ (setup : Setup) (w : World) (p : PodData) where
  -- some number of nodes is tried
  pub tries_there : (ns : List NodeData) → ((k : ℕ) → Tries setup w p ns k → ⊥) → ⊥
  tries_there [] none = none 0 refl
  tries_there (n ∷ ns) none = tries_there ns (λ k t. none k (inl (not_served k t, t)))
    where
      not_served : (k : ℕ) → Tries setup w p ns k → ServesNot w p n
      not_served k t shares serves = by (shares_are_served setup w n (others_of w.store.rows p) shares) refl
        where
          by : (b : Bool) → shares_are_served setup w n (others_of w.store.rows p) shares ≡ b → ⊥
          by true e = none 1 (inr (inl (record { shares = shares; serves = serves; given_is = e }, refl)))
          by false e = none (k + 1) (inr (inr (record { shares = shares; serves = serves; given_is = e }, (k, (refl, t)))))

  -- one is, where a node can give what is needed
  pub one_tried : (ns : List NodeData) (n : NodeData) (k : ℕ) → IsIn n ns → IsOn setup w p true n → Tries setup w p ns k → 1 ≤ k
  one_tried [] n k i on t = absurd i
  one_tried (m ∷ ns) n k (inl is) on (inl none) = let there = subst (λ x. IsOn setup w p true x) (sym is) on in absurd (none.0 there.shares there.serves)
  one_tried (m ∷ ns) n k (inr i) on (inl none) = one_tried ns n k i on none.1
  one_tried (m ∷ ns) n k i on (inr (inl given)) = let e = given.1 in omega (arith, e)
  one_tried (m ∷ ns) n k i on (inr (inr failed)) = let e = failed.1.1.0 in omega (arith, e)

-- the turn has each node once
pub turn_length : (refused : Option (List ℕ)) (ns : List NodeData) → length (in_turn refused ns) ≡ length ns
turn_length None ns = refl
turn_length (Some r) ns = parted ns
  where
    both : (xs ys : List NodeData) → length (xs ++ ys) ≡ length xs + length ys
    both [] ys = omega arith
    both (x ∷ xs) ys = let rest = both xs ys in omega (arith, rest)

    halves : (xs : List NodeData) → length (filter (is_after r) xs) + length (filter (λ x. not (is_after r x)) xs) ≡ length xs
    halves [] = refl
    halves (x ∷ xs) = by (is_after r x) (halves xs)
      where
        by : (b : Bool) → length (filter (is_after r) xs) + length (filter (λ y. not (is_after r y)) xs) ≡ length xs
            → length (cond b (x ∷ filter (is_after r) xs) (filter (is_after r) xs)) + length
            (cond (not b) (x ∷ filter (λ y. not (is_after r y)) xs) (filter (λ y. not (is_after r y)) xs)) ≡ length (x ∷ xs)
        by true rest = omega (arith, rest)
        by false rest = omega (arith, rest)

    parted : (xs : List NodeData) → length (in_turn (Some r) xs) ≡ length xs
    parted xs = let a = both (filter (is_after r) xs) (filter (λ x. not (is_after r x)) xs) in let b = halves xs in omega (arith, a, b)

-- ---- nodes are no more than agents

record TakenOut (names : List (List ℕ)) (name : List ℕ) : Type 0 where
  rest : List (List ℕ)
  fewer : length rest + 1 ≤ length names
  keeps : (other : List ℕ) → IsIn other names → other ≢ name → IsIn other rest

taken_out : (names : List (List ℕ)) (name : List ℕ) → IsIn name names → TakenOut names name
taken_out [] name i = absurd i
taken_out (x ∷ xs) name (inl is) = record { rest = xs; fewer = omega arith; keeps = keep }
  where
    keep : (other : List ℕ) → IsIn other (x ∷ xs) → other ≢ name → IsIn other xs
    keep other (inl here) differs = absurd (differs (sym here ∙ is))
    keep other (inr more) differs = more
taken_out (x ∷ xs) name (inr i) = let t = taken_out xs name i in let few = t.fewer in record { rest = x ∷ t.rest; fewer = omega (arith, few); keeps = keep t }
  where
    keep : (t : TakenOut xs name) (other : List ℕ) → IsIn other (x ∷ xs) → other ≢ name → IsIn other (x ∷ t.rest)
    keep t other (inl here) differs = inl here
    keep t other (inr more) differs = inr (t.keeps other more differs)

abbrev name_of : NodeData → List ℕ
name_of n = n.meta.name

differ_behind : (n : NodeData) (ns : List NodeData) (m : NodeData) → IsAfter text_cmp name_of n ns → IsIn m ns → m.meta.name ≢ n.meta.name
differ_behind n [] m after i same = absurd i
differ_behind n (x ∷ xs) m after (inl is) same =
    let less : text_cmp n.meta.name n.meta.name ≡ Less = ap (text_cmp n.meta.name) (sym (ap name_of is ∙ same)) ∙ after.0 in
    true≢false (sym (ap is_eq (tied_itself nat_list_cmp_total n.meta.name)) ∙ ap is_eq less)
differ_behind n (x ∷ xs) m after (inr more) same = differ_behind n xs m after.1 more same

pub few_nodes : (ns : List NodeData) (names : List (List ℕ)) → IsRising text_cmp name_of ns → ((n : NodeData) → IsIn n ns → IsIn n.meta.name names) → length ns ≤ length names
few_nodes [] names rises each = omega arith
few_nodes (n ∷ ns) names rises each =
    let t = taken_out names n.meta.name (each n (inl refl)) in
    let few = few_nodes ns t.rest rises.1 (λ m i. t.keeps m.meta.name (each m (inr i)) (differ_behind n ns m rises.0 i)) in
    let fewer = t.fewer in
    omega (arith, few, fewer)

-- the agents of a drain

abbrev node_or : List ℕ → Role → List ℕ
node_or name role = role.node

no_agent : {X : Type 0} (kind : SeatKind) (node : List ℕ) → is_agent kind ≡ false → Some (of_kind kind) ≡ Some (agent_of node) → X
no_agent kind node plain e = absurd (true≢false (sym (ap (λ (r : Role). is_agent r.kind) (one (of_kind kind) (agent_of node) e)) ∙ plain))

agents_have : (nodes : List (List ℕ)) (place : ℕ) (node : List ℕ) → slice_get (map agent_of nodes) place ≡ Some (agent_of node) → IsIn node nodes
agents_have [] place node at = none_some at
agents_have (x ∷ xs) zero node at = inl (ap (λ (r : Role). r.node) (one (agent_of x) (agent_of node) at))
agents_have (x ∷ xs) (suc place) node at = inr (agents_have xs place node at)

pub roles_have : (nodes : List (List ℕ)) (place : ℕ) (node : List ℕ) → slice_get (roles_for nodes) place ≡ Some (agent_of node) → IsIn node nodes
roles_have nodes zero node at = no_agent seats.Scheduler node refl at
roles_have nodes (suc zero) node at = no_agent seats.Ops node refl at
roles_have nodes (suc (suc zero)) node at = no_agent seats.Binder node refl at
roles_have nodes (suc (suc (suc zero))) node at = no_agent seats.ClaimProtect node refl at
roles_have nodes (suc (suc (suc (suc zero)))) node at = no_agent seats.VolumeProtect node refl at
roles_have nodes (suc (suc (suc (suc (suc place))))) node at = agents_have nodes place node at
