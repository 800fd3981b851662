-- Whose calls the history of a run has when its threads are done. The newest entry of a history stands first.
-- A choice of this project.
use Rattle.std.specs.Prelude.{ℕ, ◌≡◌, ◌≤◌, ◌<◌, ◌⊎◌, ◌+◌, List, []}
use Rattle.call_types.specs.declared.entry.Entry.{Entry}
use Rattle.binder_model.specs.Told.{own}
use Rattle.actor_rounds.specs.Rounds.{all_pass}
use Rattle.script_lines.specs.declared.actors.Actor.{Actor}
use Rattle.script_text.specs.declared.script.Script.{Script}
use Rattle.actor_turns.specs.declared.part.Part.{Part}
use Rattle.actor_turns.specs.Calls.{AreCalls}
use Rattle.actor_turns.specs.Lives.{WasPlayed}
use Rattle.actor_turns.specs.Parts.{lives_of}
use Rattle.actor_work.specs.Lives.Order.{AreInOrder}
use Rattle.actor_work.specs.Work.Working.{HasWorked}
use Rattle.shared_work.specs.Lines.{AreOfLines}
use Rattle.script_runs.specs.Parts.{role_of}
use Rattle.script_threads.specs.Started.{EachActor, drain_seat}

-- the seat is that of one of the lives
abbrev pub IsOfLives : Part → ℕ → Type 0
IsOfLives part seat = (part.first ≤ seat) × (seat < part.first + lives_of part)

-- What an actor has done, by the entries of its lives' seats. It was to make so many calls
pub record HasMadeCalls (calls : ℕ) (past : List Entry) (actor : Actor) (part : Part) : Type 0 where
  -- how many it has made, lost ones too
  pub made : ℕ
  -- its calls in order, each with the fate that its number has and at the seat of the life that makes it, leave these entries;
  -- they are those of its seats, and others' calls may stand between them
  pub mine : List Entry
  pub calls_are : AreCalls all_pass [] part mine 1 made []
  pub own_are : (seat : ℕ) → IsOfLives part seat → own seat past ≡ own seat mine
  -- of two lives the earlier one had made all its entries at a point at which the later one had none
  pub order : AreInOrder part past
  -- they are all; or they are fewer, and the life that would make the next one was told StaleEpoch
  pub whole : HasWorked part calls made past
  -- each life is one that the actor played: each call is the one that its turn gave, and where a turn gave none it was woken
  pub lives : (seat : ℕ) → IsOfLives part seat → WasPlayed [] (role_of actor) part seat made past

-- what users and actors have done
pub record AreDone (script : Script) (workers calls : ℕ) (past : List Entry) : Type 0 where
  -- each user's entries are the calls of its lines, in order, each once
  pub users : (user : ℕ) → 0 < user → user < 5 → AreOfLines user script.lines (own user past)
  pub actors : EachActor (HasMadeCalls calls past) workers script

-- and no other seat has an entry
pub record IsThreadedWork (script : Script) (workers calls : ℕ) (past : List Entry) : Type 0 where
  pub done : AreDone script workers calls past
  pub others : (seat : ℕ) → (seat ≡ 0) ⊎ (drain_seat workers script ≤ seat) → own seat past ≡ []
