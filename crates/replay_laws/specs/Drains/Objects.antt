-- How many objects stand in a script's histories: at most twice those that it imports and that its lines create.
-- A choice of this project.
use Rattle.std.specs.Prelude.{ℕ, ◌≡◌, ◌≤◌, ◌*◌, ◌++◌, List, Option, length}
use Rattle.call_types.specs.declared.entry.Entry.{Entry}
use Rattle.binder_model.specs.Run.{Run}
use Rattle.binder_model.specs.World.{world}
use Rattle.world_core.specs.declared.drained.Drained.{Drained}
use Rattle.script_text.specs.declared.script.Script.{Script}
use Rattle.script_text.specs.Said.{objects_of}
use Rattle.script_runs.specs.Replays.{IsReplay}
use Rattle.script_threads.specs.Runs.{IsRun}

-- the objects that stand are at most twice those imported and created by lines
abbrev pub HasFewObjects : Script → List Entry → Type 0
HasFewObjects script past = length (world script.setup past).store.rows ≤ 2 * objects_of script.setup.imports script.lines

-- at each point of the history
abbrev pub HasFewObjectsThroughout : Script → List Entry → Type 0
HasFewObjectsThroughout script past = (newer h : List Entry) → past ≡ newer ++ h → HasFewObjects script h

-- so it is in each replay that is a run
abbrev pub ReplayedObjectsAreFew : Type 0
ReplayedObjectsAreFew = (script : Script) (option : Option ℕ) (past : List Entry) (ending : Drained) → Run script.setup past → IsReplay script option past ending → HasFewObjectsThroughout script past

-- and in each run on threads that is a run
abbrev pub ThreadedObjectsAreFew : Type 0
ThreadedObjectsAreFew =
    (script : Script) (workers calls : ℕ) (option : Option ℕ) (past : List Entry) (ending : Drained) → Run script.setup past
    → IsRun script workers calls option past ending → HasFewObjectsThroughout script past
