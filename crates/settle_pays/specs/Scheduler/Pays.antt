-- What a scheduler begins for a pod pays.
-- A choice of this project.
use Rattle.std.specs.Prelude.{ℕ, ◌≡◌, List, Some}
use Rattle.kube_objects.specs.declared.objects.Pod.{Pod as PodData}
use Rattle.kube_objects.specs.declared.objects.Object.TheVariants.{Pod}
use Rattle.kube_objects.specs.Keys.{key_of, row_at}
use Rattle.call_types.specs.declared.entry.Entry.{Entry}
use Rattle.call_types.specs.declared.request.Request.{Request}
use Rattle.call_types.specs.declared.request.SeatKind.TheVariants as seats
use Rattle.call_types.specs.declared.setup.Setup.{Setup}
use Rattle.binder_model.specs.Imports.{ImportsPass}
use Rattle.binder_model.specs.World.{world}
use Rattle.pod_scheduler.specs.declared.schedule.ScheduleOp.{ScheduleOp}
use Rattle.pod_scheduler.specs.declared.tries.Tried.{Tried}
use Rattle.pod_scheduler.specs.Decisions.{BeginsOn}
use Rattle.pod_scheduler.specs.Schedules.{schedule_call}
use Rattle.settle_pays.specs.Pays.Pays.{WillPay}
use Rattle.worker_core.specs.declared.task.Task.TheVariants as tasks

-- what a scheduler begins for a pod that stands will pay
abbrev pub SchedulersPay : Type 0
SchedulersPay =
    (setup : Setup) (past : List Entry) (seat : ℕ) (p : PodData) (refused : List Tried) (op : ScheduleOp) (call : Request)
    → ImportsPass setup.imports → row_at (key_of (Pod p)) (world setup past).store.rows ≡ Some (Pod p)
    → BeginsOn (world setup past).store.rows refused (Some (Pod p)) (Some op) → schedule_call op ≡ Some call
    → WillPay setup seat seats.Scheduler past (record { key = key_of (Pod p); task = tasks.Schedule op; call = call })
