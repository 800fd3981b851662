-- What an actor has under way for one key: its next call, what an answer makes of it, and the decision that begins it. Each
-- kind of actor has its own machines; here they are one type.
-- A choice of this project, after the workers of a controller in client-go.
use Rattle.std.specs.Prelude.{ℕ, ◌≡◌, Bool, List, Option, Some, None, option_map}
use Rattle.kube_objects.specs.declared.key.Key.{Key}
use Rattle.kube_objects.specs.declared.objects.Object.{Object}
use Rattle.kube_objects.specs.Keys.{row_at}
use Rattle.call_types.specs.declared.request.Request.{Request}
use Rattle.call_types.specs.declared.request.SeatKind.{SeatKind}
use Rattle.call_types.specs.declared.request.SeatKind.TheVariants as seats
use Rattle.call_types.specs.declared.reply.MountRow.{MountRow}
use Rattle.call_types.specs.declared.reply.Reply.{Reply}
use Rattle.binder_machines.specs.declared.decide.FirstMachine.TheVariants as binder_firsts
use Rattle.binder_machines.specs.FirstSteps.{IsFirst}
use Rattle.binder_machines.specs.Machines as binder
use Rattle.node_agent.specs.declared.agent.AgentOp.{AgentOp}
use Rattle.node_agent.specs.Agents.{agent_begins, agent_call, agent_moved, agent_parks}
use Rattle.pod_scheduler.specs.declared.tries.Tried.{Tried}
use Rattle.pod_scheduler.specs.Decisions.{BeginsOn}
use Rattle.pod_scheduler.specs.Schedules.{schedule_call, schedule_moved, schedule_parks}
use Rattle.protect_sync.specs.declared.claims.ClaimGuardOp.{ClaimGuardOp}
use Rattle.protect_sync.specs.declared.volumes.VolumeGuardOp.{VolumeGuardOp}
use Rattle.protect_sync.specs.ClaimGuards.{claim_guard_call, claim_moved, claim_parks}
use Rattle.protect_sync.specs.Decisions.{claim_guard_begins, volume_guard_begins}
use Rattle.protect_sync.specs.VolumeGuards.{volume_guard_call, volume_moved, volume_parks}
use Rattle.reclaim_ops.specs.declared.erase.EraseOp.{EraseOp}
use Rattle.reclaim_ops.specs.declared.provision.ProvisionOp.{ProvisionOp}
use Rattle.reclaim_ops.specs.Decisions.{claim_begins, volume_begins}
use Rattle.reclaim_ops.specs.Erasures.{erase_call, erase_moved, erase_parks}
use Rattle.reclaim_ops.specs.Provisions.{provision_call, provision_moved, provision_parks}
use Rattle.worker_core.specs.declared.role.Role.{Role}
use Rattle.worker_core.specs.declared.task.Task.{Task}
use Rattle.worker_core.specs.declared.task.Task.TheVariants as tasks
use Rattle.worker_core.specs.declared.task.First.{First}
use Rattle.worker_core.specs.declared.task.First.TheVariants as firsts
use Rattle.worker_core.specs.declared.task.Under.{Under}
use Rattle.worker_core.specs.Memories.{Memory}

-- the next call, or none where nothing is left to be asked
abbrev pub task_call : Task → Option Request
task_call (tasks.Binder machine) = binder.call_of machine
task_call (tasks.ClaimProtect op) = claim_guard_call op
task_call (tasks.VolumeProtect op) = volume_guard_call op
task_call (tasks.Agent op) = agent_call op
task_call (tasks.Provision op) = provision_call op
task_call (tasks.Erase op) = erase_call op
task_call (tasks.Schedule op) = schedule_call op

-- what the answer to the next call makes of the task, or none where it has ended. But for the binder's a machine that has
-- ended has no next call
abbrev pub task_moved : Task → Reply → Option Task
task_moved (tasks.Binder machine) reply = option_map (λ m. tasks.Binder m) (binder.moved machine reply)
task_moved (tasks.ClaimProtect op) reply = Some (tasks.ClaimProtect (claim_moved op reply))
task_moved (tasks.VolumeProtect op) reply = Some (tasks.VolumeProtect (volume_moved op reply))
task_moved (tasks.Agent op) reply = Some (tasks.Agent (agent_moved op reply))
task_moved (tasks.Provision op) reply = Some (tasks.Provision (provision_moved op reply))
task_moved (tasks.Erase op) reply = Some (tasks.Erase (erase_moved op reply))
task_moved (tasks.Schedule op) reply = Some (tasks.Schedule (schedule_moved op reply))

-- the task has ended at this answer, and its key is to be parked: a refusal that it does not take as an answer
abbrev pub task_parks : Task → Reply → Bool
task_parks (tasks.Binder machine) reply = binder.parks_at machine reply
task_parks (tasks.ClaimProtect op) reply = claim_parks (claim_moved op reply).step
task_parks (tasks.VolumeProtect op) reply = volume_parks (volume_moved op reply).step
task_parks (tasks.Agent op) reply = agent_parks (agent_moved op reply).step
task_parks (tasks.Provision op) reply = provision_parks (provision_moved op reply).step
task_parks (tasks.Erase op) reply = erase_parks (erase_moved op reply).step
task_parks (tasks.Schedule op) reply = schedule_parks (schedule_moved op reply).step

-- the decision on a key

-- what the binder begins for a key
abbrev pub IsBinderFirst : List Object → Key → First → Type 0
IsBinderFirst rows key firsts.Drops = IsFirst rows (row_at key rows) binder_firsts.Drops
IsBinderFirst rows key (firsts.Queues other) = IsFirst rows (row_at key rows) (binder_firsts.Queues other)
IsBinderFirst rows key (firsts.Begins (tasks.Binder machine)) = IsFirst rows (row_at key rows) (binder_firsts.Begins machine)
IsBinderFirst rows key (firsts.Begins task) = ⊥

-- the other actors begin a machine or drop the key, and queue no other

-- what the claim protection controller begins
abbrev pub claim_guard_first : Option ClaimGuardOp → First
claim_guard_first None = firsts.Drops
claim_guard_first (Some op) = firsts.Begins (tasks.ClaimProtect op)

-- what the volume protection controller begins
abbrev pub volume_guard_first : Option VolumeGuardOp → First
volume_guard_first None = firsts.Drops
volume_guard_first (Some op) = firsts.Begins (tasks.VolumeProtect op)

-- what an agent begins
abbrev pub agent_first : Option AgentOp → First
agent_first None = firsts.Drops
agent_first (Some op) = firsts.Begins (tasks.Agent op)

-- what the reclaimer begins
abbrev pub erase_first : Option EraseOp → First
erase_first None = firsts.Drops
erase_first (Some op) = firsts.Begins (tasks.Erase op)

-- the provisioner and reclaimer provisions for a claim and reclaims a volume; a key is of at most one of them
abbrev pub ops_first : Option ProvisionOp → Option EraseOp → First
ops_first None erasing = erase_first erasing
ops_first (Some op) erasing = firsts.Begins (tasks.Provision op)

-- an agent decides a pod by its epoch and by the mounts that it was told last, once it was told both
abbrev pub IsAgentFirst : List ℕ → Option ℕ → Option (List MountRow) → Option Object → First → Type 0
IsAgentFirst node (Some epoch) (Some mounts) row first = first ≡ agent_first (agent_begins node epoch mounts row)
IsAgentFirst node epoch mounts row first = ⊥

-- a scheduler decides a pod, and the search for its node begins after the one that was refused last; it drops any other key
abbrev pub IsPodFirst : List Object → List Tried → Option Object → First → Type 0
IsPodFirst rows refused row firsts.Drops = BeginsOn rows refused row None
IsPodFirst rows refused row (firsts.Begins (tasks.Schedule op)) = BeginsOn rows refused row (Some op)
IsPodFirst rows refused row first = ⊥

-- what an actor of the kind begins for a key
abbrev pub IsFirstOf : SeatKind → List ℕ → Memory → List Object → Key → First → Type 0
IsFirstOf seats.Binder node m rows key first = IsBinderFirst rows key first
IsFirstOf seats.Ops node m rows key first = first ≡ ops_first (claim_begins rows (row_at key rows)) (volume_begins (row_at key rows))
IsFirstOf seats.Scheduler node m rows key first = IsPodFirst rows m.tries.refused (row_at key rows) first
IsFirstOf seats.ClaimProtect node m rows key first = first ≡ claim_guard_first (claim_guard_begins rows (row_at key rows))
IsFirstOf seats.VolumeProtect node m rows key first = first ≡ volume_guard_first (volume_guard_begins (row_at key rows))
IsFirstOf seats.Agent node m rows key first = IsAgentFirst node m.epoch m.mounts (row_at key rows) first
IsFirstOf seats.User node m rows key first = ⊥

-- what the decision on the key, by what the actor remembers and by these rows, comes to
abbrev pub IsDecision : Role → Memory → List Object → Key → First → Type 0
IsDecision role memory rows key first = IsFirstOf role.kind role.node memory rows key first

-- the decision on the key gives this call
pub record GivesCall (role : Role) (memory : Memory) (rows : List Object) (u : Under) : Type 0 where
  pub decided : IsDecision role memory rows u.key (firsts.Begins u.task)
  pub call : task_call u.task ≡ Some u.call

-- the decision on the key gives no call
pub record GivesNone (role : Role) (memory : Memory) (rows : List Object) (key : Key) (first : First) : Type 0 where
  pub decided : IsDecision role memory rows key first
  pub none : (task : Task) → first ≡ firsts.Begins task → task_call task ≡ None

-- the task after an answer, while it has a next call

-- the task under way, if it has a call
abbrev pub with_call : Key → Task → Option Request → Option Under
with_call key task None = None
with_call key task (Some call) = Some (record { key = key; task = task; call = call })

-- the task under way, if there is one with a call
abbrev pub with_task : Key → Option Task → Option Under
with_task key None = None
with_task key (Some task) = with_call key task (task_call task)

-- what is under way after an answer
abbrev pub under_after : Under → Reply → Option Under
under_after u reply = with_task u.key (task_moved u.task reply)
