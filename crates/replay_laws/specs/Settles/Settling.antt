-- When the last drain of a script ends settled.
-- A choice of this project.
use Rattle.std.specs.Prelude.{ℕ, ◌≡◌, ◌⊎◌, ◌≤◌, ◌-◌, Bool, true, false, List, [], ◌∷◌, Option, Some, slice_get, ⊤}
use Rattle.call_types.specs.declared.entry.Entry.{Entry}
use Rattle.call_types.specs.declared.setup.Setup.{Setup}
use Rattle.binder_model.specs.Due.{IsSettled}
use Rattle.binder_model.specs.Promises.{IsRunOf}
use Rattle.binder_model.specs.World.{world}
use Rattle.settle_progress.specs.Epochs.Epochs.{IsCurrent}
use Rattle.settle_measure.specs.Left.Measure.{faults_left}
use Rattle.world_core.specs.declared.drained.Drained.{Drained}
use Rattle.world_core.specs.declared.drained.Drained.TheVariants.{Settled}
use Rattle.actor_rounds.specs.Drainers.{agent_of, seats_for}
use Rattle.settle_calls.specs.Slots.Rounds.{size_of_world}
use Rattle.settle_budget.specs.Drains.Budget.{IsSmallWorld, enough_calls}
use Rattle.settle_budget.specs.Drains.Measured.{SharesWell}
use Rattle.settle_budget.specs.Drains.Selections.{NoneProvisionsLate}
use Rattle.history_laws.specs.Runs.Laws.{IsGivenRun}
use Rattle.script_lines.specs.declared.actors.Actor.TheVariants.{Agent}
use Rattle.script_text.specs.declared.script.Line.{Line}
use Rattle.script_text.specs.declared.script.Line.TheVariants.{Drain, Turn}
use Rattle.script_text.specs.declared.script.Script.{Script}
use Rattle.script_runs.specs.Limits.{IsReadable}
use Rattle.script_runs.specs.Parts.{drain_roles, drain_seat}
use Rattle.script_runs.specs.Replays.{IsReplay}
use Rattle.script_threads.specs.Runs.{IsRun}
use Rattle.replay_laws.specs.Drains.Naming.{NamesItsNodes}

-- ---- what a drain needs

-- where the last drain begins, each claim that two pods without a node name is completed or of a class that binds at once, or
-- else no class that ever stood both binds late and provisions; the world is small there, and so many calls are the stated budget for it
pub record AllowsSettling (setup : Setup) (before past : List Entry) (calls : ℕ) : Type 0 where
  pub shared : SharesWell (world setup before) ⊎ NoneProvisionsLate setup past
  pub small : IsSmallWorld setup (world setup before)
  pub enough : enough_calls (size_of_world (world setup before)) (faults_left setup (world setup before).devices) ≤ calls

-- no agent of the drains, whose first seat is this one, is stale here: it was told no epoch of its node, or the one that the node has
abbrev pub NoAgentIsStale : Script → ℕ → List Entry → Type 0
NoAgentIsStale script first past =
    (place seat : ℕ) (node : List ℕ) → slice_get (seats_for first script.node_names) place ≡ Some seat
    → slice_get (drain_roles script) place ≡ Some (agent_of node) → IsCurrent script.setup past node seat

-- the last drain of the replay begins so, with what earlier drains have left of the budget
pub record LastDrainMaySettle (script : Script) (option : Option ℕ) (past : List Entry) (ending : Drained) (replay : IsReplay script option past ending) : Type 0 where
  pub allows : AllowsSettling script.setup replay.lines_done.past past (replay.last.budget - replay.lines_done.drained)
  pub awake : NoAgentIsStale script (drain_seat script) replay.lines_done.past

-- ---- the sentences

-- a script that the reader gives and that names its nodes, and a run of it that a text can give
pub record IsGivenScript (script : Script) (past : List Entry) : Type 0 where
  pub readable : IsReadable script
  pub names : NamesItsNodes script
  pub given : IsGivenRun script.setup past

-- nothing is due at the end, and the ending says so
pub record EndsSettled (script : Script) (past : List Entry) (ending : Drained) : Type 0 where
  pub settled : IsSettled script.setup (world script.setup past)
  pub made : ℕ
  pub is : ending ≡ Settled made

-- the last drain of a replay ends settled wherever it may
abbrev pub LastDrainsSettle : Type 0
LastDrainsSettle = (script : Script) (option : Option ℕ) (past : List Entry) (ending : Drained) → IsGivenScript script past
    → (replay : IsReplay script option past ending) → LastDrainMaySettle script option past ending replay → EndsSettled script past ending

-- the line makes calls of an agent
abbrev pub turns_agent : Line → Bool
turns_agent (Turn (Agent node) calls) = true
turns_agent line = false

-- none of these lines does
abbrev pub TurnNoAgent : List Line → Type 0
TurnNoAgent [] = ⊤
TurnNoAgent (line ∷ lines) = (turns_agent line ≡ false) × TurnNoAgent lines

-- no line behind the first that drains does
abbrev pub LeaveAgents : List Line → Type 0
LeaveAgents [] = ⊤
LeaveAgents (Drain ∷ lines) = TurnNoAgent lines
LeaveAgents (line ∷ lines) = LeaveAgents lines

-- then no agent of the drains is stale as the last one begins
abbrev pub LeftAgentsAreAwake : Type 0
LeftAgentsAreAwake =
    (script : Script) (option : Option ℕ) (past : List Entry) (ending : Drained) → IsReadable script → IsRunOf script.setup past
    → LeaveAgents script.lines → (replay : IsReplay script option past ending)
    → NoAgentIsStale script (drain_seat script) replay.lines_done.past

-- nor is one of the drain with which a run on threads ends
abbrev pub ThreadedDrainsSettle : Type 0
ThreadedDrainsSettle =
    (script : Script) (workers calls : ℕ) (option : Option ℕ) (past : List Entry) (ending : Drained) → IsGivenScript script past
    → (r : IsRun script workers calls option past ending) → AllowsSettling script.setup r.worked past r.last.budget → EndsSettled script past ending
