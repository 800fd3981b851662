use Rattle.std.proofs.Common.{◌≡◌, List}
use Rattle.kube_objects.specs.declared.objects.Object.{Object}
use Rattle.call_types.specs.declared.entry.Entry.{Entry}
use Rattle.binder_model.specs.Told.{SomeOf, objects_of_events}
use Rattle.evidence_agent.specs.Places.Places.{TellsAt}
use Rattle.evidence_agent.specs.Pods.{ArePods}
use Rattle.evidence_agent.proofs.pods.tell_events.Given as goal

abbrev pub invariant-loop-event : goal.invariant-loop-event
invariant-loop-event l = (mine : List Entry) → ((o : Object) → SomeOf (λ x. x ≡ o) (objects_of_events l.events) → TellsAt mine l.place o)
    → ArePods l.initial.pages.items mine → ArePods l.pages.items mine
