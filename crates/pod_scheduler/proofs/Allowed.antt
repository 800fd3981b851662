-- The next call of a machine is allowed by its evidence, and is a write; a machine whose key is parked has ended.
use Rattle.std.proofs.Common.{ℕ, zero, suc, ◌≡◌, Bool, true, false, true≢false, List, [], ◌∷◌, drop, Option, Some, None, refl, sym, subst, if◌then◌else◌}
use Rattle.std.specs.Prelude.{slice_get}
use Rattle.std.specs.List.{AllByRecursion}
use Rattle.call_types.specs.declared.entry.Entry.{Entry}
use Rattle.call_types.specs.declared.request.Request.{Request}
use Rattle.call_types.specs.declared.request.Request.TheVariants as requests
use Rattle.call_types.specs.declared.request.SeatKind.TheVariants.{Scheduler}
use Rattle.call_types.specs.declared.request.SeatKind.TheVariants as seats
use Rattle.binder_model.specs.Licence.{AreOfKind, Licensed, RowAllows}
use Rattle.model_laws.proofs.Lists.{none_some, one}
use Rattle.pod_scheduler.specs.declared.schedule.ScheduleOp.{ScheduleOp}
use Rattle.pod_scheduler.specs.declared.schedule.ScheduleStep.{ScheduleStep}
use Rattle.pod_scheduler.specs.declared.schedule.ScheduleStep.TheVariants as steps
use Rattle.pod_scheduler.specs.BeginLaw.{CallsAreWrites, ParkedSchedulesHaveEnded}
use Rattle.pod_scheduler.specs.Evidence.{MayUpdate, MayWrite, ScheduleKeeps, StepKeeps}
use Rattle.pod_scheduler.specs.Schedules.{schedule_call_at, is_write, schedule_call, schedule_parks, only_write}

-- the write of a call

pub record IsWriteOf (o : Option Request) (request : Request) : Type 0 where
  pub is : o ≡ Some request
  pub write : is_write request ≡ true

pub write_of_is : (o : Option Request) (request : Request) → only_write o ≡ Some request → IsWriteOf o request
write_of_is None request e = none_some e
write_of_is (Some r) request e = by (is_write r) refl e
  where
    by : (b : Bool) → is_write r ≡ b → (if b then Some r else None) ≡ Some request → IsWriteOf (Some r) request
    by true h e = record { is = e; write = subst (λ x. is_write x ≡ true) (one r request e) h }
    by false h e = none_some e

-- what is allowed

pub update_may : (mine : List Entry) (w : Request) → MayUpdate mine w → RowAllows seats.Scheduler mine w
update_may mine (requests.Update new given) may = may
update_may mine _ may = absurd may

pub each_may : (mine : List Entry) (writes : List Request) → AllByRecursion (MayUpdate mine) writes → MayWrite mine writes
each_may mine [] may = tt
each_may mine (w ∷ writes) may = (update_may mine w may.0, may.1)

may_at : (mine : List Entry) (writes : List Request) (place : ℕ) (w : Request) → MayWrite mine (drop place writes) → slice_get writes place ≡ Some w → RowAllows seats.Scheduler mine w
may_at mine [] zero w may at = none_some at
may_at mine [] (suc place) w may at = none_some at
may_at mine (v ∷ writes) zero w may at = subst (RowAllows seats.Scheduler mine) (one v w at) may.0
may_at mine (v ∷ writes) (suc place) w may at = may_at mine writes place w may at

step_may : (step : ScheduleStep) (writes : List Request) (mine : List Entry) (request : Request) → StepKeeps step writes mine
    → schedule_call_at writes step ≡ Some request → RowAllows seats.Scheduler mine request
step_may (steps.Writes place) writes mine request kept call = may_at mine writes place request kept (write_of_is (slice_get writes place) request call).is
step_may steps.Done writes mine request kept call = none_some call
step_may steps.Parked writes mine request kept call = none_some call

pub calls_are_allowed : (op : ScheduleOp) (mine : List Entry) (request : Request) → AreOfKind Scheduler mine → ScheduleKeeps op mine → schedule_call op ≡ Some request → Licensed Scheduler mine request
unfolding schedule_call
calls_are_allowed op mine request own kept call = (own, step_may op.step op.writes mine request kept call)

-- each call is a write

step_writes : (step : ScheduleStep) (writes : List Request) (request : Request) → schedule_call_at writes step ≡ Some request → is_write request ≡ true
step_writes (steps.Writes place) writes request call = (write_of_is (slice_get writes place) request call).write
step_writes steps.Done writes request call = none_some call
step_writes steps.Parked writes request call = none_some call

pub calls_are_writes : CallsAreWrites
unfolding schedule_call
calls_are_writes op request call = step_writes op.step op.writes request call

step_ended : (step : ScheduleStep) (writes : List Request) → schedule_parks step ≡ true → schedule_call_at writes step ≡ None
step_ended (steps.Writes place) writes parks = absurd (true≢false (sym parks))
step_ended steps.Done writes parks = absurd (true≢false (sym parks))
step_ended steps.Parked writes parks = refl

pub parked_have_ended : ParkedSchedulesHaveEnded
unfolding schedule_call
parked_have_ended op parks = step_ended op.step op.writes parks
