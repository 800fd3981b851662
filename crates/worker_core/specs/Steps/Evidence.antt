-- The evidence that each task keeps, and the kind of actor whose task it is. A choice of this project.
use Rattle.std.specs.Prelude.{List}
use Rattle.call_types.specs.declared.entry.Entry.{Entry}
use Rattle.call_types.specs.declared.request.SeatKind.{SeatKind}
use Rattle.call_types.specs.declared.request.SeatKind.TheVariants as seats
use Rattle.binder_machines.specs.Evidence.{MachineKeeps}
use Rattle.node_agent.specs.Evidence.{AgentKeeps}
use Rattle.pod_scheduler.specs.Evidence.{ScheduleKeeps}
use Rattle.protect_sync.specs.Evidence.{ClaimKeeps, VolumeKeeps}
use Rattle.reclaim_ops.specs.Evidence.{EraseKeeps, ProvisionKeeps}
use Rattle.worker_core.specs.declared.task.Task.{Task}
use Rattle.worker_core.specs.declared.task.Task.TheVariants as tasks

-- the entries allow the next call of the task
abbrev pub TaskKeeps : Task → List Entry → Type 0
TaskKeeps (tasks.Binder machine) mine = MachineKeeps machine mine
TaskKeeps (tasks.ClaimProtect op) mine = ClaimKeeps op mine
TaskKeeps (tasks.VolumeProtect op) mine = VolumeKeeps op mine
TaskKeeps (tasks.Agent op) mine = AgentKeeps op mine
TaskKeeps (tasks.Provision op) mine = ProvisionKeeps op mine
TaskKeeps (tasks.Erase op) mine = EraseKeeps op mine
TaskKeeps (tasks.Schedule op) mine = ScheduleKeeps op mine

-- the kind of actor whose machine it is
abbrev pub task_kind : Task → SeatKind
task_kind (tasks.Binder machine) = seats.Binder
task_kind (tasks.ClaimProtect op) = seats.ClaimProtect
task_kind (tasks.VolumeProtect op) = seats.VolumeProtect
task_kind (tasks.Agent op) = seats.Agent
task_kind (tasks.Provision op) = seats.Ops
task_kind (tasks.Erase op) = seats.Ops
task_kind (tasks.Schedule op) = seats.Scheduler
