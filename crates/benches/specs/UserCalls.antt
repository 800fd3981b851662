-- Calls of one user in a history. The newest entry stands first. A choice of this project.
use Rattle.std.specs.Prelude.{ℕ, ◌≡◌, List}
use Rattle.call_types.specs.declared.entry.Entry.{Entry}
use Rattle.binder_model.specs.Told.{own}

-- the entries of all seats but the first stay as they were
abbrev pub OthersStay : List Entry → List Entry → Type 0
OthersStay before after = (seat : ℕ) → (seat ≡ 1 → ⊥) → own seat after ≡ own seat before
