-- Behind a slot of the scheduler in which as much is left to do no pod is to be bound to a node that it had cached.
use Rattle.std.proofs.Common.{◌≡◌, ◌∙◌, ℕ, ◌≤◌, List, [], ◌∷◌, ◌++◌, append_assoc, Bool, true, false, true≢false, Option, Some, None, refl, sym, ap, subst, if◌then◌else◌, zero, suc}
use Rattle.std.specs.Prelude.{slice_get, ⊤}
use Rattle.kube_objects.specs.declared.key.Key.{Key}
use Rattle.kube_parts.specs.declared.uid.Uid.{Uid}
use Rattle.kube_parts.specs.declared.names.Due.{Due}
use Rattle.kube_parts.specs.declared.names.Due.TheVariants as dues
use Rattle.kube_objects.specs.declared.objects.Object.{Object}
use Rattle.kube_objects.specs.declared.objects.Object.TheVariants.{Pod}
use Rattle.kube_objects.specs.declared.objects.Pod.{Pod as PodData}
use Rattle.kube_objects.specs.Bindings.{is_scheduled}
use Rattle.kube_objects.specs.Keys.{row_at}
use Rattle.kube_objects.proofs.KeyOrder.{row_at_key}
use Rattle.call_types.specs.declared.entry.Entry.{Entry}
use Rattle.call_types.specs.declared.reply.Reply.{Reply}
use Rattle.call_types.specs.declared.request.Request.{Request}
use Rattle.call_types.specs.declared.request.SeatKind.TheVariants as seats
use Rattle.call_types.specs.declared.setup.Setup.{Setup}
use Rattle.binder_model.specs.Due.{IsDue}
use Rattle.binder_model.specs.Imports.{ImportsPass}
use Rattle.binder_model.specs.Promises.{IsRunOf}
use Rattle.binder_model.specs.Reading.{follows}
use Rattle.binder_model.specs.World.{world}
use Rattle.delayed_binding.specs.declared.choice.Choice.{Choice}
use Rattle.delayed_binding.specs.declared.choice.Choice.TheVariants.{Assign, NoNode, Prepare, Wait}
use Rattle.delayed_binding.specs.ChoiceLaw.{IsDueBy}
use Rattle.delayed_binding.proofs.Dues.{choices_are_due}
use Rattle.informer_cache.specs.All.{all_objects}
use Rattle.model_laws.proofs.Growing.{runs_are_histories}
use Rattle.model_laws.proofs.Histories.{rows_stand_in_order}
use Rattle.model_laws.proofs.Lists.{none_some, one}
use Rattle.pod_scheduler.specs.declared.schedule.ScheduleOp.{ScheduleOp}
use Rattle.pod_scheduler.specs.declared.schedule.ScheduleStep.{ScheduleStep}
use Rattle.pod_scheduler.specs.declared.schedule.ScheduleStep.TheVariants as steps
use Rattle.pod_scheduler.specs.declared.tries.Tried.{Tried}
use Rattle.pod_scheduler.specs.Decisions.{BeginsFor, BeginsIf, begun_with, binding, last_refused, writes_for}
use Rattle.pod_scheduler.specs.Schedules.{is_write, only_write, schedule_call, schedule_call_at, schedule_moved}
use Rattle.settle_check.proofs.Placed.{none_in_a_namespace}
use Rattle.settle_measure.specs.Left.Measure.{work_left}
use Rattle.worker_core.specs.declared.role.Role.{Role}
use Rattle.worker_core.specs.declared.task.First.TheVariants as firsts
use Rattle.worker_core.specs.declared.task.Task.{Task}
use Rattle.worker_core.specs.declared.task.Task.TheVariants as tasks
use Rattle.worker_core.specs.declared.task.Under.{Under}
use Rattle.worker_core.specs.Absorbs.{woken}
use Rattle.worker_core.specs.Roles.{IsBuiltKind}
use Rattle.worker_core.specs.States.{ActorState}
use Rattle.worker_core.specs.Tasks.{GivesCall, IsFirstOf, IsPodFirst, task_call, task_moved, under_after}
use Rattle.actor_rounds.specs.Rounds.{Runs, all_pass}
use Rattle.settle_slot.specs.Slot.Slots.{ActsOn, IsDecisionPoint, own_entry}
use Rattle.settle_slot.proofs.Slot.Slots.{others_stay_awake}
use Rattle.settle_slot.proofs.Slot.Would.{would_act_where_calls_pass}
use Rattle.settle_due.proofs.Scheduling.Acts.{pods_act}
use Rattle.settle_due.proofs.Scheduling.Seeing.{schedulers_see_all}
use Rattle.settle_pays.specs.Pays.Pays.{HavePaid, worth}
use Rattle.settle_budget.specs.Drains.Budget.{AreAlwaysInOrder}
use Rattle.settle_alike.proofs.Near.Near.{PodNear, back_near, near_assigns, pod_near}
use Rattle.settle_progress.proofs.Drains.Rounds.{is_agent, not_agent}
use Rattle.settle_tries.specs.Tries.Deciding.{IsActedOn, IsWithin}
use Rattle.settle_tries.proofs.Slots.Deciding.{cached_are_decided}
use Rattle.settle_tries.proofs.Slots.Leading.{goes_on, leads_keep, leads_more}
use Rattle.settle_tries.proofs.Moves.Points.{near_ahead, worth_none}

-- ---- what the scheduler begins for a pod that no node runs

pub record BeginsSchedule (setup : Setup) (h : List Entry) (refused : List Tried) (p : PodData) (u : Under) : Type 0 where
  pub op : ScheduleOp
  pub task : u.task ≡ tasks.Schedule op
  pub begins : BeginsFor (world setup h).store.rows refused p (Some op)

module _ (setup : Setup) (seat : ℕ) (role : Role) (kind : role.kind ≡ seats.Scheduler) (key : Key) (s : ActorState) (h : List Entry)
    (point : IsDecisionPoint setup seat role h s h) (u : Under) (own : u.key ≡ key) (gives : GivesCall s.role s.memory (all_objects s.caches) u) where
  s_kind : s.role.kind ≡ seats.Scheduler
  s_kind = ap (λ (r : Role). r.kind) point.role_is ∙ kind

  pub on_rows : IsPodFirst (world setup h).store.rows s.memory.tries.refused (row_at key (world setup h).store.rows) (firsts.Begins u.task)
  on_rows =
      subst (λ rows. IsPodFirst rows s.memory.tries.refused (row_at key rows) (firsts.Begins u.task)) (schedulers_see_all setup seat role h s h kind point)
      (subst (λ k. IsPodFirst (all_objects s.caches) s.memory.tries.refused (row_at k (all_objects s.caches)) (firsts.Begins u.task)) own
      (subst (λ k. IsFirstOf k s.role.node s.memory (all_objects s.caches) u.key (firsts.Begins u.task)) s_kind gives.decided))

  pub begins_schedule : (p : PodData) → row_at key (world setup h).store.rows ≡ Some (Pod p) → is_scheduled p ≡ false → BeginsSchedule setup h s.memory.tries.refused p u
  begins_schedule p there open_ = by u.task refl (subst (λ row. IsPodFirst (world setup h).store.rows s.memory.tries.refused row (firsts.Begins u.task)) there on_rows)
    where
      by : (t : Task) → u.task ≡ t → IsPodFirst (world setup h).store.rows s.memory.tries.refused (Some (Pod p)) (firsts.Begins t) → BeginsSchedule setup h s.memory.tries.refused p u
      by (tasks.Schedule op) e f = record { op = op; task = e; begins = subst (λ b. BeginsIf b (world setup h).store.rows s.memory.tries.refused p (Some op)) open_ f }
      by (tasks.Binder machine) e f = absurd f
      by (tasks.ClaimProtect op) e f = absurd f
      by (tasks.VolumeProtect op) e f = absurd f
      by (tasks.Agent op) e f = absurd f
      by (tasks.Provision op) e f = absurd f
      by (tasks.Erase op) e f = absurd f

-- ---- writes that are worth something

abbrev AllWorth : List Request → Type 0
AllWorth [] = ⊤
AllWorth (r ∷ rs) = (worth seats.Scheduler r ≡ 1) × AllWorth rs

worth_at : (rs : List Request) (place : ℕ) (r : Request) → AllWorth rs → slice_get rs place ≡ Some r → worth seats.Scheduler r ≡ 1
worth_at [] place r all e = none_some e
worth_at (x ∷ rs) zero r all e = ap (worth seats.Scheduler) (sym (one x r e)) ∙ all.0
worth_at (x ∷ rs) (suc place) r all e = worth_at rs place r all.1 e

record SchedulesWorth (u : Under) : Type 0 where
  op : ScheduleOp
  task : u.task ≡ tasks.Schedule op
  writes : AllWorth op.writes
  call : schedule_call op ≡ Some u.call

worth_on : (u next : Under) (reply : Reply) → under_after u reply ≡ Some next → SchedulesWorth u → SchedulesWorth next
unfolding schedule_moved
worth_on u next reply follows p =
    let g = goes_on u next reply (tasks.Schedule (schedule_moved p.op reply)) (ap (λ t. task_moved t reply) p.task) follows in
    record { op = schedule_moved p.op reply; task = g.task_is; writes = p.writes; call = g.call }

schedules_worth : (u : Under) → SchedulesWorth u → worth seats.Scheduler u.call ≡ 1
unfolding schedule_call
schedules_worth u p = by p.op.step p.call
  where
    tested : (r : Request) (b : Bool) → worth seats.Scheduler r ≡ 1 → (if b then Some r else None) ≡ Some u.call → worth seats.Scheduler u.call ≡ 1
    tested r true w e = ap (worth seats.Scheduler) (sym (one r u.call e)) ∙ w
    tested r false w e = none_some e

    written : (place : ℕ) (x : Option Request) → slice_get p.op.writes place ≡ x → only_write x ≡ Some u.call → worth seats.Scheduler u.call ≡ 1
    written place None at e = none_some e
    written place (Some r) at e = tested r (is_write r) (worth_at p.op.writes place r p.writes at) e

    by : (step : ScheduleStep) → schedule_call_at p.op.writes step ≡ Some u.call → worth seats.Scheduler u.call ≡ 1
    by (steps.Writes place) e = written place (slice_get p.op.writes place) refl e
    by steps.Done e = none_some e
    by steps.Parked e = none_some e

-- a pod that is to be bound to a node gets one write, which binds it

abbrev is_assign : Due → Bool
is_assign dues.Assign = true
is_assign action = false

assigned_writes : (setup : Setup) (h : List Entry) (p : PodData) (refused : List Tried) (op : ScheduleOp) → ImportsPass setup.imports
    → is_scheduled p ≡ false → IsDue setup (world setup h) (Pod p) (Some dues.Assign) → BeginsFor (world setup h).store.rows refused p (Some op) → AllWorth op.writes
assigned_writes setup h p refused op pass open_ due b =
    by b.choice ((choices_are_due setup (world setup h) p (last_refused (world setup h).store.rows p refused) b.choice (Some dues.Assign)
    (rows_stand_in_order setup h) (none_in_a_namespace setup pass h) open_ b.chosen).0 due) b.begins
  where
    bound : (uid : Option Uid) (name : List ℕ) → Some op ≡ begun_with (binding p uid name) → AllWorth op.writes
    bound None name e = none_some (sym e)
    bound (Some uid) name e = subst (λ (o : ScheduleOp). AllWorth o.writes) (one _ op (sym e)) (refl, tt)

    by : (choice : Choice) → IsDueBy setup (world setup h) p choice (Some dues.Assign) → Some op ≡ begun_with (writes_for (world setup h).store.rows p choice) → AllWorth op.writes
    by (Assign name) is e = bound p.meta.uid name e
    by (Prepare name binds provisions) is e = absurd (true≢false (ap is_assign is.0))
    by Wait is e = none_some (sym is)
    by NoNode is e = none_some (sym is)

-- ---- a slot

module _ (setup : Setup) (seat : ℕ) (old after : ActorState) (h past : List Entry) (b left : ℕ) (kind : old.role.kind ≡ seats.Scheduler)
    (run : IsRunOf setup past) (order : AreAlwaysInOrder setup past) (idle : old.under ≡ None)
    (runs : Runs all_pass seat after past left true (woken old) h b) (paid : HavePaid setup h past) (le : work_left setup (world setup h) ≤ work_left setup (world setup past)) where
  pub no_assign : (key : Key) (p : PodData) (o : Object) → row_at key (world setup past).store.rows ≡ Some (Pod p) → is_scheduled p ≡ false
      → IsDue setup (world setup past) (Pod p) (Some dues.Assign) → row_at key (all_objects old.caches) ≡ Some o → ⊥
  no_assign key p o there open_ due cached = by acted
    where
      at_point : (x : List Entry) → IsWithin h x past → PodNear (world setup x) key p
      at_point x w = pod_near (world setup x) (world setup past) key p (near_ahead setup h past run order paid le x w) there

      is_open : (x : List Entry) (w : IsWithin h x past) → is_scheduled (at_point x w).pod ≡ false
      is_open x w = ap scheduled_of (at_point x w).same ∙ open_
        where
          scheduled_of : Object → Bool
          scheduled_of (Pod q) = is_scheduled q
          scheduled_of o = false

      due_at : (x : List Entry) (w : IsWithin h x past) → IsDue setup (world setup x) (Pod (at_point x w).pod) (Some dues.Assign)
      due_at x w = near_assigns setup (world setup past) (world setup x) p (at_point x w).pod
          (back_near (world setup x) (world setup past) (near_ahead setup h past run order paid le x w)) (sym (at_point x w).same) open_ due

      acts : (x : List Entry) → IsWithin h x past → ActsOn setup all_pass seat old.role x key
      acts x w =
          would_act_where_calls_pass setup all_pass seat old.role x key (λ s g y u z q own gives leads same. refl)
          (pods_act setup seat old.role x key (at_point x w).pod dues.Assign run.imports kind (at_point x w).there (is_open x w) (due_at x w))

      acted : IsActedOn setup seat old.role key h past
      acted =
          cached_are_decided setup all_pass seat key o old after h past b left (subst IsBuiltKind (sym kind) tt) (runs_are_histories setup past run.run) idle
          (ap (λ k. follows k key.kind) kind ∙ ap (λ (k : Key). follows seats.Scheduler k.kind) (sym (row_at_key key (Pod p) (world setup past).store.rows there))) cached runs
          (others_stay_awake all_pass seat (woken old) after h past b left (not_agent _ (ap is_agent kind)) runs) acts

      by : IsActedOn setup seat old.role key h past → ⊥
      by a =
          let begun = begins_schedule setup seat old.role kind key a.state a.point a.sees a.under a.own a.gives (at_point a.point a.within).pod
          (at_point a.point a.within).there (is_open a.point a.within) in
          let first : SchedulesWorth a.under = record {
            op = begun.op;
            task = begun.task;
            writes = assigned_writes setup a.point (at_point a.point a.within).pod a.state.memory.tries.refused begun.op run.imports (is_open a.point a.within) (due_at a.point a.within) begun.begins;
            call = sym (ap task_call begun.task) ∙ a.gives.call;
          } in
          let last = leads_keep setup seat old.role.kind SchedulesWorth worth_on a.reaches.leads first in
          let more = leads_more setup seat old.role.kind a.reaches.leads in
          let e = own_entry setup seat old.role.kind a.reaches.at a.reaches.last.call in
          let w : IsWithin h a.reaches.at past = record {
            newer = a.reaches.newer ++ (e ∷ []);
            older = more.newer ++ a.within.older;
            ahead = a.reaches.are ∙ sym (append_assoc a.reaches.newer (e ∷ []) a.reaches.at);
            behind = more.are ∙ (ap (λ es. more.newer ++ es) a.within.behind ∙ sym (append_assoc more.newer a.within.older h));
          } in
          worth_none setup h past run order paid le e a.reaches.at a.reaches.newer a.reaches.are w a.reaches.lasts (ap (λ k. worth k a.reaches.last.call) kind ∙ schedules_worth a.reaches.last last)
