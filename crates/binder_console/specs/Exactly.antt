-- What follows from how the program ends: which statuses come exactly where the words and the input ask for them.
use Rattle.std.specs.Prelude.{ℕ, ◌≡◌, ◌⊎◌, ◌≤◌, ⊤, List, length, IfSome, IsErr, Option, Some, None, Ok, String}
use Rattle.std.specs.declared.alloc.Global.{Global}
use Rattle.fault_io.specs.Faults.{Rose}
use Rattle.kube_objects.specs.declared.objects.Object.{Object}
use Rattle.call_types.specs.declared.entry.Entry.{Entry}
use Rattle.call_types.specs.declared.histories.History.{History}
use Rattle.world_core.specs.declared.drained.Drained.{Drained}
use Rattle.object_text.specs.Listing.{list_of}
use Rattle.script_text.specs.declared.script.Line.{Line}
use Rattle.script_text.specs.declared.script.Script.{Script}
use Rattle.script_text.specs.Grammar.{script_of}
use Rattle.extended_text.specs.declared.sides.Extended.{Extended}
use Rattle.extended_text.specs.Extended.{extended_of}
use Rattle.extended_runs.specs.Kept.{LeavingOut, with_lines}
use Rattle.history_read.specs.Grammar.{history_of}
use Rattle.script_gen.specs.Generated.{generated}
use Rattle.script_runs.specs.Replays.{IsReplay}
use Rattle.script_threads.specs.Runs.{IsRun}
use Rattle.replay_laws.specs.Settles.Settling.{AllowsSettling, LastDrainMaySettle}
use Rattle.binder_console.specs.declared.status.Status.{Status}
use Rattle.binder_console.specs.declared.status.Status.TheVariants.{Done, Usage, Refused, Unsettled, ReadFault, WriteFault, Memory, AuditNo}
use Rattle.binder_console.specs.declared.commands.Task.{Task}
use Rattle.binder_console.specs.declared.commands.Task.TheVariants.{Replay, Run, Check, Audit, Gen, Extend}
use Rattle.binder_console.specs.Commands.{task_of}
use Rattle.binder_console.specs.Ends.{Ends, Outside}
use Rattle.binder_console.specs.Inputs.{IsReadThrough, IsTooMuch, most_input}

-- the task is not done of such an input
abbrev pub IsNoInput : Task → List ℕ → Type 0
IsNoInput (Replay budget) input = IsErr (script_of input)
IsNoInput (Run workers calls budget) input = IsErr (script_of input)
IsNoInput Check input = IsErr (list_of input)
IsNoInput Audit input = IsErr (history_of input)
IsNoInput (Gen seed budget) input = ⊥
IsNoInput (Extend budget) input = IsErr (extended_of input)

-- the input is too long or not one of which the task is done, where the source tells it
abbrev pub IsToBeRefused : Option Task → Option (List ℕ) → Type 0
IsToBeRefused None left = ⊥
IsToBeRefused (Some task) None = ⊥
IsToBeRefused (Some task) (Some input) = IsTooMuch task input ⊎ IsNoInput task input

-- the statuses for want of memory and for faults of reading and writing
abbrev pub IsFault : Status → Type 0
IsFault ReadFault = ⊤
IsFault WriteFault = ⊤
IsFault Memory = ⊤
IsFault status = ⊥

-- the status is this one, or a fault
abbrev pub IsOrFails : Status → Status → Type 0
IsOrFails want status = (status ≡ want) ⊎ IsFault status

-- the statuses of a task that was done
abbrev pub IsOfTask : Status → Type 0
IsOfTask Done = ⊤
IsOfTask Unsettled = ⊤
IsOfTask AuditNo = ⊤
IsOfTask status = ⊥

-- ---- a task that is to be done

-- the last drain of each replay of the script may settle, whatever history it leaves
abbrev pub ReplaysSettle : Script → Option ℕ → Type 0
ReplaysSettle script budget =
    (past : List Entry) (ending : Drained) (replay : IsReplay script budget past ending) → LastDrainMaySettle script budget past ending replay

-- so may the drain of each run of it on threads
abbrev pub RunsSettle : Script → ℕ → ℕ → Option ℕ → Type 0
RunsSettle script workers calls budget =
    (past : List Entry) (ending : Drained) (run : IsRun script workers calls budget past ending) → AllowsSettling script.setup run.worked past run.last.budget

-- so may the last drain of each replay of its script, whichever creates of claims are left out of it
abbrev pub RunsBesideSettle : Extended → Option ℕ → Type 0
RunsBesideSettle extended budget = (kept : List Line) → LeavingOut extended.script.lines kept → ReplaysSettle (with_lines kept extended.script) budget

-- the input is one of which the task is done, and its drain, if it has one, may settle
abbrev pub IsToBeDone : Task → List ℕ → Type 0
IsToBeDone (Replay budget) input = (script : Script) × (script_of input ≡ Ok script) × ReplaysSettle script budget
IsToBeDone (Run workers calls budget) input = (script : Script) × (script_of input ≡ Ok script) × RunsSettle script workers calls budget
IsToBeDone Check input = (objects : List Object) × (list_of input ≡ Ok objects)
IsToBeDone Audit input = (history : History) × (history_of input ≡ Ok history)
IsToBeDone (Gen seed budget) input = ReplaysSettle (generated seed) budget
IsToBeDone (Extend budget) input = (extended : Extended) × (extended_of input ≡ Ok extended) × RunsBesideSettle extended budget

-- the source tells that it has this input left, within the limit, or the task reads none
abbrev pub IsToldOf : Option ℕ → Option (List ℕ) → List ℕ → Type 0
IsToldOf (Some most) left input = (left ≡ Some input) × (length input ≤ most)
IsToldOf None left input = ⊤

-- the source tells that it has this input left, and the task takes so much; or it reads none
abbrev pub IsTold : Task → Option (List ℕ) → List ℕ → Type 0
IsTold task left input = IsToldOf (most_input task) left input

-- no read and no write failed
abbrev pub NoneFailed : Outside → Outside → Type 0
NoneFailed before after = (Rose before.read_faults after.read_faults → ⊥) × (Rose before.write_faults after.write_faults → ⊥)

-- it was done, or memory was wanting; of an audit the verdict may be no
abbrev pub IsComplete : Task → Status → Type 0
IsComplete Audit status = (status ≡ Done) ⊎ ((status ≡ AuditNo) ⊎ (status ≡ Memory))
IsComplete task status = (status ≡ Done) ⊎ (status ≡ Memory)

-- ---- the whole

-- Usage comes exactly where the words ask for nothing, and Refused exactly where the input is to be refused, but for want of
-- memory and faults. Where the task was done, nothing of its input is left. A task that is to be done is done, unless a read or a write
-- fails or memory is wanting.
pub record AreExact (status : Status) (words : List (String Global)) (before after : Outside) : Type 0 where
  pub misused : status ≡ Usage → task_of words ≡ None
  pub misuse : task_of words ≡ None → (status ≡ Usage) ⊎ ((status ≡ WriteFault) ⊎ (status ≡ Memory))
  pub refusal : IsToBeRefused (task_of words) before.left → IsOrFails Refused status
  pub read_through : IsOfTask status → IfSome (task_of words) (λ task. IsReadThrough task after.left)
  pub complete : (task : Task) (input : List ℕ) → task_of words ≡ Some task → IsTold task before.left input → IsToBeDone task input
      → NoneFailed before after → IsComplete task status

-- so it is however the program ends
abbrev pub EndsAreExact : Type 0
EndsAreExact = (status : Status) (words : List (String Global)) (before after : Outside) → Ends status words before after → AreExact status words before after
