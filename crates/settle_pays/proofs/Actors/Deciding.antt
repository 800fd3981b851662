-- A decision of the binder begins one of its machines, so what each of them pays is what the decision pays.
use Rattle.std.proofs.Common.{◌≡◌, ◌∙◌, ℕ, List, Some, refl, sym, ap, subst}
use Rattle.kube_objects.specs.declared.objects.Object.{Object}
use Rattle.kube_objects.specs.Keys.{row_at}
use Rattle.call_types.specs.declared.entry.Entry.{Entry}
use Rattle.call_types.specs.declared.request.SeatKind.TheVariants as seats
use Rattle.call_types.specs.declared.setup.Setup.{Setup}
use Rattle.binder_machines.specs.declared.decide.FirstMachine.TheVariants as binder_firsts
use Rattle.binder_machines.specs.declared.machine.Machine.{Machine}
use Rattle.binder_machines.specs.FirstSteps.{IsFirst}
use Rattle.worker_core.specs.declared.task.First.TheVariants as firsts
use Rattle.worker_core.specs.declared.task.Task.{Task}
use Rattle.worker_core.specs.declared.task.Task.TheVariants as tasks
use Rattle.worker_core.specs.declared.task.Under.{Under}
use Rattle.worker_core.specs.Tasks.{IsBinderFirst, task_call}
use Rattle.settle_pays.specs.Pays.Pays.{WillPay}
use Rattle.settle_pays.proofs.Actors.Walking.{MachinePays}

module _ (setup : Setup) (seat : ℕ) (h : List Entry) (u : Under) (rows : List Object) (asks : task_call u.task ≡ Some u.call)
    (each : (machine : Machine) → IsFirst rows (row_at u.key rows) (binder_firsts.Begins machine) → MachinePays setup seat u.key h machine) where
  by_task : (task : Task) → u.task ≡ task → IsBinderFirst rows u.key (firsts.Begins task) → WillPay setup seat seats.Binder h u
  by_task (tasks.Binder machine) is begins =
      subst (WillPay setup seat seats.Binder h) (λ i. record { key = u.key; task = (sym is) i; call = u.call }) (each machine begins u.call (ap task_call (sym is) ∙ asks))
  by_task (tasks.ClaimProtect op) is begins = absurd begins
  by_task (tasks.VolumeProtect op) is begins = absurd begins
  by_task (tasks.Agent op) is begins = absurd begins
  by_task (tasks.Provision op) is begins = absurd begins
  by_task (tasks.Erase op) is begins = absurd begins
  by_task (tasks.Schedule op) is begins = absurd begins

  pub by_machine : IsBinderFirst rows u.key (firsts.Begins u.task) → WillPay setup seat seats.Binder h u
  by_machine begins = by_task u.task refl begins
