-- What is due for a node agent begins a call that lasts.
-- A choice of this project.
use Rattle.std.specs.Prelude.{ℕ, ◌≡◌, true, List, Some}
use Rattle.kube_objects.specs.declared.key.Key.{Key}
use Rattle.kube_parts.specs.declared.names.Due.{Due}
use Rattle.kube_parts.specs.declared.names.Due.TheVariants as dues
use Rattle.kube_objects.specs.declared.objects.Pod.{Pod as PodData}
use Rattle.kube_objects.specs.declared.objects.Object.TheVariants.{Pod}
use Rattle.kube_objects.specs.Bindings.{is_scheduled}
use Rattle.kube_objects.specs.Keys.{row_at}
use Rattle.call_types.specs.declared.entry.Entry.{Entry}
use Rattle.call_types.specs.declared.setup.Setup.{Setup}
use Rattle.binder_model.specs.Due.{agent_due}
use Rattle.binder_model.specs.Imports.{ImportsPass}
use Rattle.binder_model.specs.Promises.{IsRunOf}
use Rattle.binder_model.specs.World.{world}
use Rattle.informer_cache.specs.All.{all_objects}
use Rattle.worker_core.specs.declared.role.Role.{Role}
use Rattle.worker_core.specs.declared.task.First.{First}
use Rattle.worker_core.specs.declared.task.Under.{Under}
use Rattle.worker_core.specs.States.{ActorState}
use Rattle.worker_core.specs.Tasks.{GivesCall, GivesNone}
use Rattle.actor_rounds.specs.Drainers.{agent_of}
use Rattle.settle_slot.specs.Slot.Slots.{IsDecisionPoint}
use Rattle.settle_slot.specs.Slot.Would.{WouldLast}
use Rattle.settle_progress.specs.Epochs.Epochs.{IsCurrent}

-- the history is a run, and the epoch that the seat was told of the node, if any, is the node's
pub record IsHolding (setup : Setup) (h : List Entry) (node : List ℕ) (seat : ℕ) : Type 0 where
  pub run : IsRunOf setup h
  pub current : IsCurrent setup h node seat

-- wherever the key is decided while the agent holds its node, the decision begins what makes a call that lasts, if its calls reach
-- the world
pub record AgentWouldActOn (setup : Setup) (seat : ℕ) (role : Role) (start : List Entry) (key : Key) : Type 0 where
  pub lasts : (s : ActorState) (h : List Entry) (u : Under) → IsDecisionPoint setup seat role start s h → IsHolding setup h role.node seat
      → u.key ≡ key → GivesCall s.role s.memory (all_objects s.caches) u → WouldLast setup seat role.kind start h u
  pub acts : (s : ActorState) (h : List Entry) (first : First) → IsDecisionPoint setup seat role start s h → IsHolding setup h role.node seat
      → GivesNone s.role s.memory (all_objects s.caches) key first → ⊥

-- the agent of the node on which a pod is scheduled, where the pod is to be mounted
abbrev pub MountsAct : Type 0
MountsAct =
    (setup : Setup) (seat : ℕ) (role : Role) (start : List Entry) (key : Key) (p : PodData) → ImportsPass setup.imports → role ≡ agent_of p.node
    → row_at key (world setup start).store.rows ≡ Some (Pod p)
    → is_scheduled p ≡ true → agent_due (world setup start) p ≡ Some dues.Mount → AgentWouldActOn setup seat role start key

-- and where it is to be finished
abbrev pub FinishesAct : Type 0
FinishesAct =
    (setup : Setup) (seat : ℕ) (role : Role) (start : List Entry) (key : Key) (p : PodData) → ImportsPass setup.imports → role ≡ agent_of p.node
    → row_at key (world setup start).store.rows ≡ Some (Pod p)
    → is_scheduled p ≡ true → agent_due (world setup start) p ≡ Some dues.Finish → AgentWouldActOn setup seat role start key

-- so it acts on each pod of its node for which something is due
abbrev pub AgentsAct : Type 0
AgentsAct =
    (setup : Setup) (seat : ℕ) (role : Role) (start : List Entry) (key : Key) (p : PodData) (action : Due) → ImportsPass setup.imports → role ≡ agent_of p.node
    → row_at key (world setup start).store.rows ≡ Some (Pod p) → is_scheduled p ≡ true → agent_due (world setup start) p ≡ Some action → AgentWouldActOn setup seat role start key
