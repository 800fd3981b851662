-- An actor that may make calls of its lives on a shared world.
-- A choice of this project.
use Rattle.std.specs.Prelude.{ℕ, ◌≡◌, ◌+◌, ◌<◌, ◌^◌, true, List, length}
use Rattle.call_types.specs.declared.ask.Ask.{Ask}
use Rattle.call_types.specs.declared.setup.Setup.{Setup}
use Rattle.call_types.specs.declared.reply.Reply.{Reply}
use Rattle.seat_lock.specs.declared.keeps.Keeps.{Ghosts}
use Rattle.seat_lock.specs.declared.pass.Pass.{Pass}
use Rattle.shared_world.specs.declared.shared.SharedWorld.{SharedWorld}
use Rattle.shared_world.specs.Lines.{Kept}
use Rattle.actor_work.specs.Lives.Lived.{AreLives, past_of}
use Rattle.actor_turns.specs.declared.player.Player.{Player}
use Rattle.actor_turns.specs.Parts.{lives_of}
use Rattle.actor_turns.specs.Steps.Playing.{SomePlays}

module _ {k : Ghosts Kept Ask Reply Setup} where
  -- the actor has a pass of the shared world for each of its lives, and stands for their entries
  abbrev pub MayGoOn : SharedWorld → ℕ → List (Pass Kept Ask Reply Setup k) → Player → Type 0
  MayGoOn shared made lives x =
      AreLives shared made x.part.first lives × (length lives ≡ lives_of x.part) × (x.part.named ≡ true) × (x.part.first + length x.part.restarts < 2 ^ 32) × SomePlays x (past_of lives)
