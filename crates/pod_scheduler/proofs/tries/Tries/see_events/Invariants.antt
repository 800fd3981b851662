use Rattle.std.proofs.Common.{◌≡◌, drop}
use Rattle.binder_model.specs.Told.{objects_of_events}
use Rattle.pod_scheduler.specs.Tries.{see_all}
use Rattle.pod_scheduler.proofs.tries.Tries.see_events.Given as goal

-- those that are still ahead are seen then
abbrev pub invariant-loop-event : goal.invariant-loop-event
invariant-loop-event l = see_all (objects_of_events (drop l.event-index l.events)) l.self ≡ see_all (objects_of_events l.events) l.fn.self
