use Rattle.std.proofs.Common.{List, [], Option, ap, ◌∙◌}
use Rattle.std.specs.Prelude.{unwrap_or}
use Rattle.call_types.specs.declared.entry.Entry.{Entry}
use Rattle.audit_check.proofs.Noted.{noted_next}
use Rattle.audit_check.proofs.seats.Seats.note.Goals as goal

pub returns : goal.returns
returns c =
    noted_next c.args.self.now.evidence c.remove-kept.new.self c.insert.new.self c.args.entry.now _ _
    c.remove-kept.ensures.updates c.in_ok-insert.ensures.updates c.in_ok-note.ensures.ok
    (c.evidence_of-evidence.ensures ∙ ap (λ (o : Option (List Entry)). unwrap_or o []) c.remove-kept.ensures.value)
