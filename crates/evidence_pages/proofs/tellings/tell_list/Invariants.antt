use Rattle.std.proofs.Common.{◌≡◌, List}
use Rattle.kube_objects.specs.declared.objects.Object.{Object}
use Rattle.call_types.specs.declared.entry.Entry.{Entry}
use Rattle.binder_model.specs.Told.{SomeOf, ToldObject}
use Rattle.evidence_pages.specs.Parts.{ArePages}
use Rattle.evidence_pages.proofs.tellings.tell_list.Given as goal

abbrev pub invariant-loop-object : goal.invariant-loop-object
invariant-loop-object l = (mine : List Entry) → ((o : Object) → SomeOf (λ x. x ≡ o) l.objects → ToldObject (λ x. x ≡ o) mine) → ArePages l.initial.pages mine → ArePages l.pages mine
