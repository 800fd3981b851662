use Rattle.std.proofs.Common.{◌≡◌, Some, reverse, subst}
use Rattle.call_types.specs.declared.entry.Entry.{Entry}
use Rattle.binder_model.specs.Told.{found_over}
use Rattle.evidence_judge.proofs.Shown.{found_by}
use Rattle.evidence_judge.proofs.agents.last_found.Goals as goal

pub returns-in-Some-found_over : goal.returns-in-Some-found_over
returns-in-Some-found_over c =
    found_by c.args.entries.now c.args.id.now _ _ c.in-Some.place c.index-entries-place.result c.in-Some-found_over.volume.now
    c.data.ensures (c.place.ensures (reverse c.args.entries.now) c.requires) c.in-Some.is c.if-place-entries.false
    (subst (λ (e : Entry). Some c.in-Some-found_over.volume.now ≡ found_over c.args.id.now e.told e.reply) c.index-entries-place.is c.in-Some-found_over.ensures)
