-- The seats of a drain differ.
use Rattle.std.proofs.Common.{◌≡◌, ℕ, ◌<◌, ◌+◌, zero, suc, List, [], ◌∷◌, Some, inl, inr, refl, sym, ap, subst, arith}
use Rattle.std.specs.Prelude.{slice_get, ⊤}
use Rattle.model_laws.proofs.Lists.{none_some, one}
use Rattle.actor_rounds.specs.Drainers.{AreSeats, seats_for, seats_from}
use Rattle.actor_rounds.specs.Longer.{IsOneOf}
use Rattle.script_runs.proofs.Staging.{seats_low as from_low}

-- none of these stands twice
abbrev pub Apart : List ℕ → Type 0
Apart [] = ⊤
Apart (seat ∷ seats) = (IsOneOf seats seat → ⊥) × Apart seats

pub one_at : (seats : List ℕ) (place seat : ℕ) → slice_get seats place ≡ Some seat → IsOneOf seats seat
one_at [] place seat at = none_some at
one_at (s ∷ seats) zero seat at = inl (one s seat at)
one_at (s ∷ seats) (suc place) seat at = inr (one_at seats place seat at)

differ : (seats : List ℕ) → Apart seats → (i j seat : ℕ) → slice_get seats i ≡ Some seat → slice_get seats j ≡ Some seat → i ≡ j
differ [] apart i j seat at there = none_some at
differ (s ∷ seats) apart zero zero seat at there = refl
differ (s ∷ seats) apart zero (suc j) seat at there = absurd (apart.0 (subst (IsOneOf seats) (sym (one s seat at)) (one_at seats j seat there)))
differ (s ∷ seats) apart (suc i) zero seat at there = absurd (apart.0 (subst (IsOneOf seats) (sym (one s seat there)) (one_at seats i seat at)))
differ (s ∷ seats) apart (suc i) (suc j) seat at there = ap suc (differ seats apart.1 i j seat at there)

from_apart : (low : ℕ) (nodes : List (List ℕ)) → Apart (seats_from low nodes)
from_apart low [] = tt
from_apart low (node ∷ nodes) = (λ again. let high = from_low (low + 1) nodes low again in absurd (omega (arith, high)), from_apart (low + 1) nodes)

-- those of the agents are none of the controllers'
not_agents : (first more seat : ℕ) (nodes : List (List ℕ)) → seat ≡ first + more → more < 5 → IsOneOf (seats_from (first + 5) nodes) seat → ⊥
not_agents first more seat nodes is few among = let high = from_low (first + 5) nodes seat among in absurd (omega (arith, is, few, high))

pub seats_apart : (first : ℕ) (nodes : List (List ℕ)) → Apart (seats_for first nodes)
seats_apart first nodes = (at_scheduler, (at_ops, (at_binder, (at_claims, (at_volumes, from_apart (first + 5) nodes)))))
  where
    others : List ℕ
    others = seats_from (first + 5) nodes

    at_volumes : IsOneOf others (first + 4) → ⊥
    at_volumes among = not_agents first 4 (first + 4) nodes refl (omega arith) among

    at_claims : IsOneOf ((first + 4) ∷ others) (first + 3) → ⊥
    at_claims (inl is) = absurd (omega (arith, is))
    at_claims (inr among) = not_agents first 3 (first + 3) nodes refl (omega arith) among

    at_binder : IsOneOf ((first + 3) ∷ (first + 4) ∷ others) first → ⊥
    at_binder (inl is) = absurd (omega (arith, is))
    at_binder (inr (inl is)) = absurd (omega (arith, is))
    at_binder (inr (inr among)) = not_agents first 0 first nodes (omega arith) (omega arith) among

    at_ops : IsOneOf (first ∷ (first + 3) ∷ (first + 4) ∷ others) (first + 1) → ⊥
    at_ops (inl is) = absurd (omega (arith, is))
    at_ops (inr (inl is)) = absurd (omega (arith, is))
    at_ops (inr (inr (inl is))) = absurd (omega (arith, is))
    at_ops (inr (inr (inr among))) = not_agents first 1 (first + 1) nodes refl (omega arith) among

    at_scheduler : IsOneOf ((first + 1) ∷ first ∷ (first + 3) ∷ (first + 4) ∷ others) (first + 2) → ⊥
    at_scheduler (inl is) = absurd (omega (arith, is))
    at_scheduler (inr (inl is)) = absurd (omega (arith, is))
    at_scheduler (inr (inr (inl is))) = absurd (omega (arith, is))
    at_scheduler (inr (inr (inr (inl is)))) = absurd (omega (arith, is))
    at_scheduler (inr (inr (inr (inr among)))) = not_agents first 2 (first + 2) nodes refl (omega arith) among

pub seats_differ : (first : ℕ) (nodes : List (List ℕ)) → AreSeats (seats_for first nodes)
seats_differ first nodes = record { some = omega arith; differ = differ (seats_for first nodes) (seats_apart first nodes) }
