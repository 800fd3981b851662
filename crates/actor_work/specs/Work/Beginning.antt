-- The passes with which an actor's work begins.
-- A choice of this project.
use Rattle.std.specs.Prelude.{ℕ, ◌+◌, ◌<◌, List, length, slice_index_or}
use Rattle.call_types.specs.declared.ask.Ask.{Ask}
use Rattle.call_types.specs.declared.setup.Setup.{Setup}
use Rattle.call_types.specs.declared.reply.Reply.{Reply}
use Rattle.seat_lock.specs.declared.keeps.Keeps.{Ghosts}
use Rattle.seat_lock.specs.declared.pass.Pass.{Pass}
use Rattle.shared_world.specs.declared.shared.SharedWorld.{SharedWorld}
use Rattle.shared_world.specs.Lines.{Kept}
use Rattle.shared_world.specs.Passes.{IsFirst}

module _ {k : Ghosts Kept Ask Reply Setup} where
  -- passes of a new shared world of which so many were made, numbered from this number on
  abbrev pub AreFrom : SharedWorld → ℕ → ℕ → List (Pass Kept Ask Reply Setup k) → Type 0
  AreFrom shared made first passes = (i : ℕ) (d : Pass Kept Ask Reply Setup k) → i < length passes → IsFirst shared made (first + i) (slice_index_or passes i d)
