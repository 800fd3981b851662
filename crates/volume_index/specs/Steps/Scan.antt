-- The first of the candidates at the places before a bound, by an order. A choice of this project.
use Rattle.std.specs.Prelude.{ℕ, ◌≡◌, ◌≢◌, ◌<◌, Option, Some, None}
use Rattle.std.specs.declared.cmp.Ordering.{Ordering}
use Rattle.std.specs.declared.cmp.Ordering.TheVariants.{Greater}

-- the candidate at this place, before which no candidate at a place below the bound stands
pub record IsFirstAt {X : Type 0} (cmp : X → X → Ordering) (Candidate : ℕ → X → Type 0) (bound place : ℕ) : Type 0 where
  pub it : X
  pub candidate : Candidate place it
  pub first : (other : ℕ) → other < bound → (x : X) → Candidate other x → cmp it x ≢ Greater

-- the first candidate at the places below the bound, or none where there is none
abbrev pub IsFirstBelow : {X : Type 0} → (X → X → Ordering) → (ℕ → X → Type 0) → ℕ → Option ℕ → Type 0
IsFirstBelow cmp Candidate bound (Some place) = IsFirstAt cmp Candidate bound place
IsFirstBelow {X = X} cmp Candidate bound None = (place : ℕ) → place < bound → (x : X) → Candidate place x → ⊥
