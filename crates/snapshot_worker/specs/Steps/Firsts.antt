-- The place of the first row that asks for something.
-- A choice of this project.
use Rattle.std.specs.Prelude.{ℕ, zero, suc, ◌≡◌, true, false, List, [], ◌∷◌, Option, is_some, ⊤}
use Rattle.snapshot_bind.specs.declared.calls.SnapAsk.{SnapAsk}

-- no row asks
abbrev pub NoneAsks : {X : Type 0} → (X → Option SnapAsk) → List X → Type 0
NoneAsks f [] = ⊤
NoneAsks f (x ∷ xs) = (is_some (f x) ≡ false) × NoneAsks f xs

-- the row at this place asks, and none before it does
abbrev pub IsFirstAsking : {X : Type 0} → (X → Option SnapAsk) → List X → ℕ → Type 0
IsFirstAsking f [] at = ⊥
IsFirstAsking f (x ∷ xs) zero = is_some (f x) ≡ true
IsFirstAsking f (x ∷ xs) (suc at) = (is_some (f x) ≡ false) × IsFirstAsking f xs at
