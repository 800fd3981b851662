-- The last entry of which a condition holds. The entries stand oldest first.
-- A choice of this project, as the rows are.
use Rattle.std.specs.Prelude.{ℕ, ◌≡◌, ◌<◌, ◌+◌, List, get_or, length, reverse, drop}
use Rattle.call_types.specs.declared.entry.Entry.{Entry}
use Rattle.binder_model.specs.Told.{SomeOf}

-- the condition holds of the entry at the place, and of none after it
pub record IsLast (P : Entry → Type 0) (mine : List Entry) (place : ℕ) : Type 0 where
  pub within : place < length mine
  pub entry : Entry
  pub there : entry ≡ get_or mine place entry
  pub is : P entry
  pub since : SomeOf P (reverse (drop (place + 1) mine)) → ⊥
