-- The order of an actor's lives.
use Rattle.std.proofs.Common.{◌≡◌, ℕ, ◌<◌, List, [], ◌∷◌, ◌++◌, refl, sym, ◌∙◌, ap, subst, subst₂, arith}
use Rattle.kube_parts.specs.declared.parts.Kind.TheVariants.{Node, Pod}
use Rattle.call_types.specs.declared.entry.Entry.{Entry}
use Rattle.binder_model.specs.Told.{own}
use Rattle.actor_work.specs.Lives.Order.{AreInOrder, StandsBefore}
use Rattle.script_threads.specs.Examples.{asks}
use Rattle.run_examples.specs.Threads.Calls.{OrderExamples, takes, two_lives}

-- there are two lives
in_turn : (past : List Entry) → StandsBefore 10 11 past → AreInOrder two_lives past
in_turn past stands earlier later low lt high =
    let few : later < 12 = high in
    let a : 10 ≡ earlier = omega (arith, low, lt, few) in
    let b : 11 ≡ later = omega (arith, low, lt, few) in
    subst₂ (λ (m : ℕ) (n : ℕ). StandsBefore m n past) a b stands

abbrev newest : List Entry → Entry
newest [] = takes 0 0
newest (e ∷ es) = e

-- where the newest entry is the first life's the second has none
none_before : (epoch : ℕ) (past late early : List Entry) → takes 10 epoch ∷ past ≡ late ++ early → own 10 late ≡ [] → own 11 early ≡ [] → own 11 past ≡ []
none_before epoch past [] early is all none = ap (own 11) is ∙ none
none_before epoch past (e ∷ late) early is all none =
    let same : takes 10 epoch ≡ e = ap newest is in
    let some : takes 10 epoch ∷ own 10 late ≡ [] = subst (λ (x : Entry). own 10 (x ∷ late) ≡ []) (sym same) all in
    absurd (cc)

turned : (epoch : ℕ) (past : List Entry) → AreInOrder two_lives (takes 10 epoch ∷ past) → own 11 past ≡ []
turned epoch past order =
    let stands = order 10 11 (omega arith) (omega arith) (omega arith) in none_before epoch past stands.late stands.early stands.is stands.all stands.none

pub order_cases : OrderExamples
order_cases = record {
  one_after_the_other = in_turn _ (record { late = takes 11 2 ∷ []; early = takes 10 1 ∷ []; is = refl; all = refl; none = refl });
  others_between = in_turn _ (record { late = asks 1 Pod ∷ takes 11 2 ∷ []; early = asks 1 Node ∷ takes 10 1 ∷ asks 2 Node ∷ []; is = refl; all = refl; none = refl });
  one_life_alone = in_turn _ (record { late = takes 11 1 ∷ []; early = []; is = refl; all = refl; none = refl });
  two_lives_turned = λ order. let none = turned 2 (takes 11 1 ∷ []) order in absurd (cc);
  not_one_between_another = λ order. let none = turned 3 (takes 11 2 ∷ takes 10 1 ∷ []) order in absurd (cc);
}
