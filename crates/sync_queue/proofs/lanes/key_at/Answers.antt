use Rattle.std.proofs.Common.{sym, ◌∙◌}
use Rattle.sync_queue.proofs.MapPlaces.{entry_key}
use Rattle.sync_queue.proofs.lanes.key_at.Goals as goal

pub returns : goal.returns
returns c = c.key.ensures ∙ sym (entry_key c.args.stages.now.entries c.args.place c.in-Some.slot.now c.in-Some.field-0-1.now (sym c.in-Some.ensures.entry))
