-- Histories of a counter, the newest entry first. The tests put such a counter behind the lock.
-- A choice of this project.
use Rattle.std.specs.Prelude.{◌≡◌, ℕ, ◌+◌, ◌%◌, ◌^◌, List, [], ◌∷◌}
use Rattle.seat_lock.specs.declared.keeps.Entry.{Entry}

-- the first value with all that was added to it
abbrev pub sum_of : ℕ → List (Entry ℕ ℕ) → ℕ
sum_of first [] = first
sum_of first (e ∷ past) = (sum_of first past + e.ask) % 2 ^ 64

-- each answer is the sum at that point
abbrev pub IsSummed : ℕ → List (Entry ℕ ℕ) → Type 0
IsSummed first [] = Unit {0}
IsSummed first (e ∷ past) = (e.answer ≡ sum_of first (e ∷ past)) × IsSummed first past
