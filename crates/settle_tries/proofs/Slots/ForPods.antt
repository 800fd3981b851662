-- What a scheduler has under way is one of the writes of its choice for a pod that no node runs.
use Rattle.std.proofs.Common.{◌≡◌, ◌∙◌, Bool, true, false, Option, Some, None, refl, sym, ap}
use Rattle.kube_objects.specs.declared.objects.Object.{Object}
use Rattle.kube_objects.specs.declared.objects.Object.TheVariants.{Class, Node, Volume, Claim, Pod}
use Rattle.kube_objects.specs.declared.objects.Pod.{Pod as PodData}
use Rattle.kube_objects.specs.Bindings.{is_scheduled}
use Rattle.kube_objects.specs.Keys.{row_at}
use Rattle.binder_model.specs.World.{world}
use Rattle.model_laws.proofs.Lists.{none_some}
use Rattle.pod_scheduler.specs.declared.schedule.ScheduleOp.{ScheduleOp}
use Rattle.pod_scheduler.specs.Decisions.{BeginsFor, BeginsIf, BeginsOn, writes_for}
use Rattle.worker_core.specs.declared.task.First.TheVariants as firsts
use Rattle.worker_core.specs.declared.task.Task.{Task}
use Rattle.worker_core.specs.declared.task.Task.TheVariants as tasks
use Rattle.worker_core.specs.Tasks.{IsPodFirst, task_call}
use Rattle.settle_due.proofs.Scheduling.Firsts.{begun_writes}
use Rattle.settle_tries.specs.Tries.Coming.{DecidedAreForPods, IsForPod}
use Rattle.settle_tries.proofs.Quiet.Assigning.{on_rows}
use Rattle.settle_tries.proofs.Slots.Leading.{leads_keep}
use Rattle.settle_tries.proofs.Search.Choosing.{Schedules, among_writes, schedules_on}

pub decided_are_for_pods : DecidedAreForPods
decided_are_for_pods setup seat role h g u kind i = by_task i.first.task refl rows_say
  where
    rows_say : IsPodFirst (world setup i.point).store.rows i.state.memory.tries.refused (row_at i.first.key (world setup i.point).store.rows) (firsts.Begins i.first.task)
    rows_say = on_rows setup seat role kind i.first.key i.state i.point i.sees i.first refl i.gives

    by_choice : (op : ScheduleOp) (p : PodData) → i.first.task ≡ tasks.Schedule op
        → row_at i.first.key (world setup i.point).store.rows ≡ Some (Pod p) → is_scheduled p ≡ false → BeginsFor (world setup i.point).store.rows i.state.memory.tries.refused p (Some op)
        → IsForPod setup i.point i.state.memory.tries.refused i.first.key u.call
    by_choice op p task there waits b =
        let first : Schedules (writes_for (world setup i.point).store.rows p b.choice) i.first = record {
          op = op;
          task = task;
          are = begun_writes (writes_for (world setup i.point).store.rows p b.choice) op b.begins;
          call = sym (ap task_call task) ∙ i.gives.call;
        } in
        let a = among_writes (writes_for (world setup i.point).store.rows p b.choice) u
        (leads_keep setup seat role.kind (Schedules (writes_for (world setup i.point).store.rows p b.choice))
        (schedules_on (writes_for (world setup i.point).store.rows p b.choice)) i.leads first) in
        record { pod = p; there = there; waits = waits; choice = b.choice; chosen = b.chosen; place = a.0; among = a.1 }

    by_node : (op : ScheduleOp) (p : PodData) → i.first.task ≡ tasks.Schedule op → row_at i.first.key (world setup i.point).store.rows ≡ Some (Pod p)
        → (b : Bool) → is_scheduled p ≡ b → BeginsIf b (world setup i.point).store.rows i.state.memory.tries.refused p (Some op)
        → IsForPod setup i.point i.state.memory.tries.refused i.first.key u.call
    by_node op p task there true waits b = none_some (sym b)
    by_node op p task there false waits b = by_choice op p task there waits b

    by_row : (op : ScheduleOp) → i.first.task ≡ tasks.Schedule op → (row : Option Object) → row_at i.first.key (world setup i.point).store.rows ≡ row
        → BeginsOn (world setup i.point).store.rows i.state.memory.tries.refused row (Some op)
        → IsForPod setup i.point i.state.memory.tries.refused i.first.key u.call
    by_row op task (Some (Pod p)) there b = by_node op p task there (is_scheduled p) refl b
    by_row op task (Some (Claim x)) there b = none_some (sym b)
    by_row op task (Some (Class x)) there b = none_some (sym b)
    by_row op task (Some (Node x)) there b = none_some (sym b)
    by_row op task (Some (Volume x)) there b = none_some (sym b)
    by_row op task None there b = none_some (sym b)

    by_task : (t : Task) → i.first.task ≡ t
        → IsPodFirst (world setup i.point).store.rows i.state.memory.tries.refused (row_at i.first.key (world setup i.point).store.rows)
        (firsts.Begins t) → IsForPod setup i.point i.state.memory.tries.refused i.first.key u.call
    by_task (tasks.Schedule op) e f = by_row op e (row_at i.first.key (world setup i.point).store.rows) refl f
    by_task (tasks.Binder machine) e f = absurd f
    by_task (tasks.ClaimProtect op) e f = absurd f
    by_task (tasks.VolumeProtect op) e f = absurd f
    by_task (tasks.Agent op) e f = absurd f
    by_task (tasks.Provision op) e f = absurd f
    by_task (tasks.Erase op) e f = absurd f
