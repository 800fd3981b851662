-- How many calls a task may still make, but for those after a write that was done.
-- A choice of this project.
use Rattle.std.specs.Prelude.{ℕ, ◌+◌, ◌*◌, ◌-◌, Option, Some, None, length}
use Rattle.binder_machines.specs.declared.machine.Machine.{Machine}
use Rattle.binder_machines.specs.declared.machine.Machine.TheVariants.{ReadsClaim, Unbinds, ReadsVolume}
use Rattle.node_agent.specs.declared.agent.AgentOp.{AgentOp}
use Rattle.node_agent.specs.declared.step.AgentStep.{AgentStep}
use Rattle.node_agent.specs.declared.step.AgentStep.TheVariants as agent_steps
use Rattle.pod_scheduler.specs.declared.schedule.ScheduleStep.{ScheduleStep}
use Rattle.pod_scheduler.specs.declared.schedule.ScheduleStep.TheVariants as schedule_steps
use Rattle.protect_sync.specs.declared.claims.ClaimGuardStep.{ClaimGuardStep}
use Rattle.protect_sync.specs.declared.claims.ClaimGuardStep.TheVariants as claim_steps
use Rattle.protect_sync.specs.declared.volumes.VolumeGuardStep.{VolumeGuardStep}
use Rattle.protect_sync.specs.declared.volumes.VolumeGuardStep.TheVariants as volume_steps
use Rattle.reclaim_ops.specs.declared.erase.EraseStep.{EraseStep}
use Rattle.reclaim_ops.specs.declared.erase.EraseStep.TheVariants as erase_steps
use Rattle.reclaim_ops.specs.declared.provision.ProvisionStep.{ProvisionStep}
use Rattle.reclaim_ops.specs.declared.provision.ProvisionStep.TheVariants as provision_steps
use Rattle.worker_core.specs.declared.task.Task.{Task}
use Rattle.worker_core.specs.declared.task.Task.TheVariants as tasks
use Rattle.worker_core.specs.declared.task.Under.{Under}

-- a claim is read before a volume is unbound or released, and a volume before a claim is Lost
abbrev pub machine_left : Machine → ℕ
machine_left (ReadsClaim v) = 3
machine_left (Unbinds v) = 2
machine_left (ReadsVolume c) = 2
machine_left machine = 1

-- pods are listed before the finalizer of a claim is dropped
abbrev pub claim_guard_left : ClaimGuardStep → ℕ
claim_guard_left (claim_steps.Adds) = 1
claim_guard_left (claim_steps.ListsPods) = 2
claim_guard_left (claim_steps.Drops) = 1
claim_guard_left step = 0

-- the finalizer of a volume is added or dropped at once
abbrev pub volume_guard_left : VolumeGuardStep → ℕ
volume_guard_left (volume_steps.Adds) = 1
volume_guard_left (volume_steps.Drops) = 1
volume_guard_left step = 0

-- a volume is read, its data are erased, and it is deleted, or phase Failed is written
abbrev pub erase_left : EraseStep → ℕ
erase_left erase_steps.ReadsVolume = 3
erase_left (erase_steps.Erases uid) = 2
erase_left (erase_steps.Deletes uid) = 1
erase_left erase_steps.WritesFailed = 1
erase_left step = 0

-- data are provisioned, then the volume is created; or the node of the claim is cleared
abbrev pub provision_left : ProvisionStep → ℕ
provision_left (provision_steps.Provisions labels) = 2
provision_left (provision_steps.Creates id topology) = 1
provision_left provision_steps.ClearsNode = 1
provision_left step = 0

-- so many of the pod's claims are still to be read, each with its volume
abbrev pub mount_left : ℕ → AgentStep → ℕ
mount_left unread (agent_steps.ReadsClaim name) = 3 + 2 * unread
mount_left unread (agent_steps.ReadsVolume name c) = 2 + 2 * unread
mount_left unread agent_steps.MountsPod = 1
mount_left unread agent_steps.Unmounts = 3
mount_left unread agent_steps.ReadsMounts = 2
mount_left unread agent_steps.Finishes = 1
mount_left unread step = 0

-- a pod's claims but for those that were found ready are still to be read
abbrev pub agent_left : AgentOp → ℕ
agent_left op = mount_left (length op.pod.claims - length op.ready) op.step

-- each write of a scheduler but the last is done
abbrev pub schedule_left : ScheduleStep → ℕ
schedule_left (schedule_steps.Writes place) = 1
schedule_left step = 0

-- how many calls the task may still make
abbrev pub task_left : Task → ℕ
task_left (tasks.Binder machine) = machine_left machine
task_left (tasks.ClaimProtect op) = claim_guard_left op.step
task_left (tasks.VolumeProtect op) = volume_guard_left op.step
task_left (tasks.Agent op) = agent_left op
task_left (tasks.Provision op) = provision_left op.step
task_left (tasks.Erase op) = erase_left op.step
task_left (tasks.Schedule op) = schedule_left op.step

-- how many calls what is under way may still make; none where nothing is
abbrev pub under_left : Option Under → ℕ
under_left None = 0
under_left (Some u) = task_left u.task
