-- What the users of a script leave in a history. The newest entry stands first.
-- A choice of this project: the users have the seats 1 to 4.
use Rattle.std.specs.Prelude.{ℕ, ◌≡◌, ◌<◌, ◌⊎◌, List, []}
use Rattle.call_types.specs.declared.entry.Entry.{Entry}
use Rattle.binder_model.specs.Told.{own}
use Rattle.script_text.specs.declared.script.Line.{Line}
use Rattle.shared_work.specs.Lines.{AreOfLines}

-- each user's entries are the calls of its lines, and no other seat has an entry
pub record AreOfUsers (lines : List Line) (past : List Entry) : Type 0 where
  pub users : (user : ℕ) → 0 < user → user < 5 → AreOfLines user lines (own user past)
  pub others : (seat : ℕ) → (seat ≡ 0) ⊎ (4 < seat) → own seat past ≡ []
