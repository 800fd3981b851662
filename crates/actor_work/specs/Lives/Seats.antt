-- What holds of a whole history where it holds of each seat's own entries. The newest entry stands first.
-- A choice of this project.
use Rattle.std.specs.Prelude.{ℕ, List, ◌↔◌}
use Rattle.call_types.specs.declared.entry.Entry.{Entry}
use Rattle.binder_model.specs.Told.{own}
use Rattle.size_law.specs.Calls.Calls.{AreByActors}

-- binders and schedulers are actors in the history just where they are so in each seat's own entries
abbrev pub ActorsBySeats : Type 0
ActorsBySeats = (past : List Entry) → AreByActors past ↔ ((seat : ℕ) → AreByActors (own seat past))
