use Rattle.std.specs.Prelude.{drop}
use Rattle.binder_model.specs.Told.{SomeOf, objects_of_events}
use Rattle.licence_record.proofs.sure.tell_events.Given as goal

-- what is to be found is still ahead
abbrev pub invariant-loop-event : goal.invariant-loop-event
invariant-loop-event g l = g.T.SureTest.sure l.test → SomeOf (g.T.SureTest.allows l.test) (objects_of_events l.events)
    → SomeOf (g.T.SureTest.allows l.test) (objects_of_events (drop l.event-index l.events))
