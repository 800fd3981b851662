-- What a user calls leaves the seats of actors alone.
use Rattle.std.proofs.Common.{ℕ, ◌≡◌, ◌<◌, ◌+◌, ◌^◌, List, [], ◌∷◌, length, arith, ◌∙◌, sym, ap, subst}
use Rattle.call_types.specs.declared.entry.Entry.{Entry}
use Rattle.binder_model.specs.Told.{own}
use Rattle.model_laws.proofs.Evidence.{own_other}
use Rattle.actor_rounds.specs.declared.drainers.Drainer.{Drainer}
use Rattle.actor_rounds.specs.Drainers.{AreNew, HaveNoEntries, seats_of}
use Rattle.actor_rounds.proofs.NewFacts.{new_seats_for}
use Rattle.benches.specs.UserCalls.{OthersStay}

pub unchanged : (before after : List Entry) → after ≡ before → OthersStay before after
unchanged before after is seat other = ap (own seat) is

pub one_told : (before after : List Entry) (e : Entry) → after ≡ e ∷ before → e.seat ≡ 1 → OthersStay before after
one_told before after e is at seat other = ap (own seat) is ∙ own_other e before seat (λ same. other (same ∙ at))

pub both_stay : (before middle after : List Entry) → OthersStay before middle → OthersStay middle after → OthersStay before after
both_stay before middle after h k seat other = k seat other ∙ h seat other

pub few_seats : (nodes : List (List ℕ)) → nodes ≡ [] → 5 + length nodes < 2 ^ 63
few_seats nodes none = subst (λ (ns : List (List ℕ)). 5 + length ns < 2 ^ 63) (sym none) (omega arith)

-- so new actors at the seats from the fifth on have no entries
pub none_of_actors : (nodes : List (List ℕ)) (ds : List Drainer) (before after : List Entry) → nodes ≡ [] → before ≡ [] → AreNew 5 nodes ds
    → OthersStay before after → HaveNoEntries (seats_of ds) after
none_of_actors nodes ds before after empty none new stay =
    subst (λ (ss : List ℕ). HaveNoEntries ss after) (sym (new_seats_for 5 [] ds (subst (λ (ns : List (List ℕ)). AreNew 5 ns ds) empty new))) (
      at 7 (λ e. absurd (omega (arith, e))),
      (at 6 (λ e. absurd (omega (arith, e))), (at 5 (λ e. absurd (omega (arith, e))), (at 8 (λ e. absurd (omega (arith, e))), (at 9 (λ e. absurd (omega (arith, e))), tt)))),
    )
  where
    at : (seat : ℕ) → (seat ≡ 1 → ⊥) → own seat after ≡ []
    at seat other = stay seat other ∙ ap (own seat) none
