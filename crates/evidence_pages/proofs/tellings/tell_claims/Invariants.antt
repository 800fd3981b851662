use Rattle.std.proofs.Common.{◌≡◌, List}
use Rattle.call_types.specs.declared.entry.Entry.{Entry}
use Rattle.binder_model.specs.Told.{ToldObject}
use Rattle.evidence_pages.specs.Parts.{ArePages}
use Rattle.evidence_pages.proofs.tellings.tell_claims.Given as goal

abbrev pub invariant-loop-name : goal.invariant-loop-name
invariant-loop-name l = (mine : List Entry) → ToldObject (λ x. x ≡ l.object) mine → ArePages l.initial.pages mine → ArePages l.pages mine
