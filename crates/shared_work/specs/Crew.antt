-- The workers of a shared world, and the numbers of their seats.
-- A choice of this project.
use Rattle.std.specs.Prelude.{ℕ, zero, suc, ◌+◌, List, [], ◌∷◌, ⊤}
use Rattle.shared_work.specs.declared.crew.Hired.{Hired}

-- so many numbers that follow one another
abbrev pub numbers_from : ℕ → ℕ → List ℕ
numbers_from first zero = []
numbers_from first (suc many) = first ∷ numbers_from (first + 1) many

module _ {W : Type 0} where
  abbrev pub all_seats : List (Hired W) → ℕ
  all_seats [] = 0
  all_seats (hired ∷ crew) = hired.seats + all_seats crew

  -- it is so of each worker with the numbers of its seats. The first worker's begin with this number, each other's follow on
  -- those of the worker before it
  abbrev pub Each : (W → List ℕ → Type 0) → ℕ → List (Hired W) → Type 0
  Each Is first [] = ⊤
  Each Is first (hired ∷ crew) = Is hired.worker (numbers_from first hired.seats) × Each Is (first + hired.seats) crew
