-- The scheduler pays: what it begins lowers what is left to do, call by call.
use Rattle.std.proofs.Common.{◌≡◌, ◌∙◌, ℕ, List, Option, Some, None, refl, sym, ap, subst}
use Rattle.kube_objects.specs.declared.objects.Object.{Object}
use Rattle.kube_objects.specs.declared.objects.Object.TheVariants.{Class, Node, Volume, Claim, Pod}
use Rattle.kube_objects.specs.Keys.{key_of, row_at}
use Rattle.kube_objects.proofs.KeyOrder.{row_at_key}
use Rattle.call_types.specs.declared.entry.Entry.{Entry}
use Rattle.call_types.specs.declared.request.SeatKind.TheVariants as seats
use Rattle.call_types.specs.declared.setup.Setup.{Setup}
use Rattle.binder_model.specs.Promises.{IsRunOf}
use Rattle.binder_model.specs.World.{world}
use Rattle.informer_cache.specs.All.{all_objects}
use Rattle.model_laws.proofs.Lists.{none_some}
use Rattle.pod_scheduler.specs.declared.schedule.ScheduleOp.{ScheduleOp}
use Rattle.pod_scheduler.specs.declared.tries.Tried.{Tried}
use Rattle.pod_scheduler.specs.Decisions.{BeginsOn}
use Rattle.pod_scheduler.specs.Schedules.{schedule_call}
use Rattle.settle_due.proofs.Scheduling.Seeing.{schedulers_see_all}
use Rattle.settle_pays.proofs.Scheduler.Paying.{schedulers_pay}
use Rattle.worker_core.specs.declared.role.Role.{Role}
use Rattle.worker_core.specs.declared.task.First.TheVariants as firsts
use Rattle.worker_core.specs.declared.task.Task.{Task}
use Rattle.worker_core.specs.declared.task.Task.TheVariants as tasks
use Rattle.worker_core.specs.declared.task.Under.{Under}
use Rattle.worker_core.specs.States.{ActorState}
use Rattle.worker_core.specs.Tasks.{GivesCall, IsFirstOf, IsPodFirst, task_call}
use Rattle.settle_slot.specs.Slot.Slots.{IsDecisionPoint}
use Rattle.settle_pays.specs.Pays.Pays.{WillPay}
use Rattle.settle_pays.specs.Actors.Scheduling.{SchedulingPays}

module _ (setup : Setup) (seat : ℕ) (role : Role) (kind : role.kind ≡ seats.Scheduler) (s : ActorState) (h : List Entry) (u : Under)
    (run : IsRunOf setup h) (p : IsDecisionPoint setup seat role h s h) (gives : GivesCall s.role s.memory (all_objects s.caches) u) where
  abbrev rows : List Object
  rows = (world setup h).store.rows

  abbrev refused : List Tried
  refused = s.memory.tries.refused

  decided : IsPodFirst rows refused (row_at u.key rows) (firsts.Begins u.task)
  decided =
      let s_kind : s.role.kind ≡ seats.Scheduler = ap (λ (r : Role). r.kind) p.role_is ∙ kind in
      subst (λ xs. IsPodFirst xs refused (row_at u.key xs) (firsts.Begins u.task)) (schedulers_see_all setup seat role h s h kind p)
      (subst (λ k. IsFirstOf k s.role.node s.memory (all_objects s.caches) u.key (firsts.Begins u.task)) s_kind gives.decided)

  -- by the machine that began
  by_op : (op : ScheduleOp) → u.task ≡ tasks.Schedule op → (row : Option Object) → row_at u.key rows ≡ row → BeginsOn rows refused row (Some op) → WillPay setup seat seats.Scheduler h u
  by_op op task (Some (Pod q)) there begins =
      let call : schedule_call op ≡ Some u.call = ap task_call (sym task) ∙ gives.call in
      let key : key_of (Pod q) ≡ u.key = row_at_key u.key (Pod q) rows there in
      let paid = schedulers_pay setup h seat q refused op u.call run.imports (ap (λ k. row_at k rows) key ∙ there) begins call in
      subst (WillPay setup seat seats.Scheduler h) (λ i. record { key = key i; task = (sym task) i; call = u.call }) paid
  by_op op task None there begins = none_some (sym begins)
  by_op op task (Some (Class x)) there begins = none_some (sym begins)
  by_op op task (Some (Node x)) there begins = none_some (sym begins)
  by_op op task (Some (Volume x)) there begins = none_some (sym begins)
  by_op op task (Some (Claim x)) there begins = none_some (sym begins)

  by_task : (task : Task) → u.task ≡ task → IsPodFirst rows refused (row_at u.key rows) (firsts.Begins task) → WillPay setup seat seats.Scheduler h u
  by_task (tasks.Schedule op) is begins = by_op op is (row_at u.key rows) refl begins
  by_task (tasks.Binder machine) is begins = absurd begins
  by_task (tasks.ClaimProtect op) is begins = absurd begins
  by_task (tasks.VolumeProtect op) is begins = absurd begins
  by_task (tasks.Agent op) is begins = absurd begins
  by_task (tasks.Provision op) is begins = absurd begins
  by_task (tasks.Erase op) is begins = absurd begins

pub scheduling_pays : SchedulingPays
scheduling_pays setup seat role kind s h u run p gives =
    subst (λ k. WillPay setup seat k h u) (sym kind) (by_task setup seat role kind s h u run p gives u.task refl (decided setup seat role kind s h u run p gives))
