-- What an actor may rely on: there is one decision; each machine that begins has its evidence, and a next call; each call is a write; a
-- machine whose key is parked has ended.
-- A choice of this project.
use Rattle.std.specs.Prelude.{◌≡◌, true, List, Option, Some, None, is_some}
use Rattle.kube_objects.specs.declared.key.Key.{Key}
use Rattle.kube_objects.specs.declared.objects.Object.{Object}
use Rattle.kube_objects.specs.Keys.{AreRows, row_at}
use Rattle.call_types.specs.declared.entry.Entry.{Entry}
use Rattle.call_types.specs.declared.request.Request.{Request}
use Rattle.call_types.specs.declared.request.SeatKind.TheVariants.{Scheduler}
use Rattle.binder_model.specs.Licence.{AreOfKind}
use Rattle.informer_cache.specs.All.{AllKnown, AllStandFor, all_objects}
use Rattle.pod_scheduler.specs.declared.schedule.ScheduleOp.{ScheduleOp}
use Rattle.pod_scheduler.specs.declared.tries.Tried.{Tried}
use Rattle.pod_scheduler.specs.Decisions.{BeginsOn}
use Rattle.pod_scheduler.specs.Evidence.{ScheduleKeeps}
use Rattle.pod_scheduler.specs.Schedules.{is_write, schedule_call, schedule_parks}

-- on rows in order, as those of each look-up
abbrev pub DecisionsAreUnique : Type 0
DecisionsAreUnique =
    (rows : List Object) (refused : List Tried) (row : Option Object) (a b : Option ScheduleOp)
    → AreRows rows → BeginsOn rows refused row a → BeginsOn rows refused row b → a ≡ b

-- where the caches stand for what was told, whatever nodes were refused
abbrev pub DecisionsKeep : Type 0
DecisionsKeep =
    (caches : AllKnown) (mine : List Entry) (refused : List Tried) (key : Key) (op : ScheduleOp)
    → AllStandFor caches mine → AreRows (all_objects caches) → AreOfKind Scheduler mine
    → BeginsOn (all_objects caches) refused (row_at key (all_objects caches)) (Some op) → ScheduleKeeps op mine

-- what is begun for a pod has a call
abbrev pub BegunSchedulesHaveCalls : Type 0
BegunSchedulesHaveCalls = (rows : List Object) (refused : List Tried) (row : Option Object) (op : ScheduleOp) → BeginsOn rows refused row (Some op) → is_some (schedule_call op) ≡ true

-- so none counts as a read of the actor's own
abbrev pub CallsAreWrites : Type 0
CallsAreWrites = (op : ScheduleOp) (request : Request) → schedule_call op ≡ Some request → is_write request ≡ true

-- what was parked has no call
abbrev pub ParkedSchedulesHaveEnded : Type 0
ParkedSchedulesHaveEnded = (op : ScheduleOp) → schedule_parks op.step ≡ true → schedule_call op ≡ None
