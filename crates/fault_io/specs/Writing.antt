-- What was written to a sink, where it tells it, and what writes do to that.
-- A choice of this project.
use Rattle.std.specs.Prelude.{◌≡◌, ℕ, ◌<◌, List, ◌++◌, length, take, ⊤, Option, Some, None, MatchResult}
use Rattle.std.specs.declared.result.Result.{Result}

-- these bytes were written after what stood there; who tells what was written goes on telling it
abbrev pub Appends : Option (List ℕ) → Option (List ℕ) → List ℕ → Type 0
Appends None None bytes = ⊤
Appends None (Some new) bytes = ⊥
Appends (Some old) None bytes = ⊥
Appends (Some old) (Some new) bytes = new ≡ old ++ bytes

-- a front of these bytes was written, and not all of them
pub record WritesFront (old new : Option (List ℕ)) (bytes : List ℕ) : Type 0 where
  pub count : ℕ
  pub within : count < length bytes
  pub appended : Appends old new (take count bytes)

-- a write took the front that it tells; a failed write took nothing
abbrev pub Writes : {E : Type 0} → Option (List ℕ) → Option (List ℕ) → Result ℕ E → List ℕ → Type 0
Writes old new result bytes = MatchResult result (λ n. Appends old new (take n bytes)) (λ _. new ≡ old)
