-- Whose calls the history of a run on threads has: those of users and actors, and then a drain's. The newest entry stands first.
-- A choice of this project.
use Rattle.std.specs.Prelude.{ℕ, ◌≡◌, List, Option}
use Rattle.call_types.specs.declared.entry.Entry.{Entry}
use Rattle.world_core.specs.declared.drained.Drained.{Drained}
use Rattle.actor_rounds.specs.declared.drainers.Drainer.{Drainer}
use Rattle.actor_rounds.specs.Drainers.{AreNew}
use Rattle.actor_rounds.specs.Rounds.{all_pass}
use Rattle.script_text.specs.declared.script.Script.{Script}
use Rattle.script_runs.specs.Replays.{EndsAs, IsDrain, Progress, first_progress}
use Rattle.script_threads.specs.Started.{drain_seat}
use Rattle.script_threads.specs.Threads.{AreDone, IsThreadedWork}

-- how far a run has come when its threads are done: no drain was made
abbrev pub progress_after : List Entry → Option ℕ → List Drainer → Progress
progress_after worked option drainers = record (first_progress option drainers) { past = worked }

-- a run on threads: the work of the threads, and then a drain
pub record IsRun (script : Script) (workers calls : ℕ) (option : Option ℕ) (past : List Entry) (ending : Drained) : Type 0 where
  -- the threads leave these entries
  pub worked : List Entry
  pub work : IsThreadedWork script workers calls worked
  -- then comes a drain, by new actors whose seats come after those of the actors' lives
  pub drainers : List Drainer
  pub new : AreNew (drain_seat workers script) script.node_names drainers
  pub end : Progress
  pub last : IsDrain all_pass script option (progress_after worked option drainers) end
  pub history : past ≡ end.past
  pub ends : EndsAs script.setup end ending
  -- users and actors have made no calls since: in the whole history, too, these are what they have done
  pub done : AreDone script workers calls past
