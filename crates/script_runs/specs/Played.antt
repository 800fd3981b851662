-- That each life of each actor is one that its actor played, and the replay of a script whose actors did so.
-- A choice of this project, after the work queue and the resync of a controller in client-go.
use Rattle.std.specs.Prelude.{ℕ, ◌≡◌, ◌≤◌, ◌<◌, ◌+◌, List, [], Option, Some, slice_get}
use Rattle.call_types.specs.declared.entry.Entry.{Entry}
use Rattle.world_core.specs.declared.drained.Drained.{Drained}
use Rattle.script_lines.specs.declared.actors.Actor.{Actor}
use Rattle.script_text.specs.declared.script.Line.TheVariants.{Turn}
use Rattle.script_text.specs.declared.script.Script.{Script}
use Rattle.actor_turns.specs.Diligent.{IsDiligentLife}
use Rattle.actor_turns.specs.Lives.{ArePlayedLives}
use Rattle.actor_turns.specs.Parts.{lives_of}
use Rattle.script_runs.specs.Parts.{part_of, role_of}
use Rattle.script_runs.specs.Replays.{IsReplay, Progress}

-- each life of each actor that a turn line names was played by it
abbrev pub ArePlayed : Script → Progress → Type 0
ArePlayed script end = (place : ℕ) (actor : Actor) (calls : ℕ) → slice_get script.lines place ≡ Some (Turn actor calls)
    → ArePlayedLives [] (role_of actor) (part_of script actor) (end.made (part_of script actor).name) end.past end.idle

-- the replay is one that ends so, and its actors played their lives
pub record IsPlayedReplay (script : Script) (option : Option ℕ) (past : List Entry) (ending : Drained) : Type 0 where
  pub calls : IsReplay script option past ending
  pub played : ArePlayed script calls.end

-- each life of each actor that a turn line names is diligent
abbrev pub AreDiligent : Script → Progress → Type 0
AreDiligent script end = (place : ℕ) (actor : Actor) (calls : ℕ) → slice_get script.lines place ≡ Some (Turn actor calls) → (seat : ℕ)
    → (part_of script actor).first ≤ seat → seat < (part_of script actor).first + lives_of (part_of script actor)
    → IsDiligentLife [] (role_of actor) (part_of script actor) seat (end.made (part_of script actor).name) end.past

-- so it is where they were played
abbrev pub PlayedAreDiligent : Type 0
PlayedAreDiligent = (script : Script) (end : Progress) → ArePlayed script end → AreDiligent script end
