-- A text is empty by its length.
use Rattle.std.proofs.Common.{ℕ, ◌≡◌, ◌==◌, List, [], ◌∷◌, length, refl, arith}
use Rattle.kube_objects.specs.Bindings.{is_empty}

pub is_empty_by_length : (xs : List ℕ) → (length xs == 0) ≡ is_empty xs
is_empty_by_length [] = refl
is_empty_by_length (x ∷ xs) = grind arith
