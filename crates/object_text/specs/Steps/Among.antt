-- One of several texts. A choice of this project.
use Rattle.std.specs.Prelude.{ℕ, List, [], ◌∷◌, Bool, ◌||◌, bytes_eq}

-- the text is one of these, or the last
abbrev pub is_one_of : List ℕ → List (List ℕ) → List ℕ → Bool
is_one_of k [] last = bytes_eq k last
is_one_of k (n ∷ ns) last = bytes_eq k n || is_one_of k ns last
