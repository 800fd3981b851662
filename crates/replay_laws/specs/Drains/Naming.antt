-- On which nodes the pods of a script's histories are: those that the script names, so that its drains have an agent of each.
-- A choice of this project.
use Rattle.std.specs.Prelude.{ℕ, ◌≡◌, ◌++◌, List, Option, Some, true}
use Rattle.kube_objects.specs.declared.key.Key.{Key}
use Rattle.kube_objects.specs.declared.objects.Pod.{Pod as PodData}
use Rattle.kube_objects.specs.declared.objects.Object.TheVariants.{Pod}
use Rattle.kube_objects.specs.Bindings.{is_scheduled}
use Rattle.kube_objects.specs.Keys.{row_at}
use Rattle.call_types.specs.declared.entry.Entry.{Entry}
use Rattle.binder_model.specs.Run.{Run}
use Rattle.binder_model.specs.Told.{SomeOf}
use Rattle.binder_model.specs.World.{world}
use Rattle.world_core.specs.declared.drained.Drained.{Drained}
use Rattle.script_text.specs.declared.script.Script.{Script}
use Rattle.script_text.specs.Said.{agents_of, nodes_of}
use Rattle.script_runs.specs.Replays.{IsReplay}
use Rattle.script_threads.specs.Runs.{IsRun}

-- the nodes that a script names are those of its imports and those that its lines create: so it is of each that a text gives
abbrev pub NamesItsNodes : Script → Type 0
NamesItsNodes script = script.node_names ≡ nodes_of (agents_of script.setup.imports script.lines)

-- each pod that a node runs is on one of these
abbrev pub ArePodsOnNamed : Script → List Entry → Type 0
ArePodsOnNamed script past = (key : Key) (p : PodData) → row_at key (world script.setup past).store.rows ≡ Some (Pod p) → is_scheduled p ≡ true → SomeOf (λ node. node ≡ p.node) script.node_names

-- at each point of the history
abbrev pub ArePodsOnNamedThroughout : Script → List Entry → Type 0
ArePodsOnNamedThroughout script past = (newer h : List Entry) → past ≡ newer ++ h → ArePodsOnNamed script h

-- so it is in each replay that is a run
abbrev pub ReplayedPodsAreOnNamed : Type 0
ReplayedPodsAreOnNamed = (script : Script) (option : Option ℕ) (past : List Entry) (ending : Drained) → NamesItsNodes script → Run script.setup past
    → IsReplay script option past ending → ArePodsOnNamedThroughout script past

-- and in each run on threads that is a run
abbrev pub ThreadedPodsAreOnNamed : Type 0
ThreadedPodsAreOnNamed =
    (script : Script) (workers calls : ℕ) (option : Option ℕ) (past : List Entry) (ending : Drained) → NamesItsNodes script → Run script.setup past
    → IsRun script workers calls option past ending → ArePodsOnNamedThroughout script past
