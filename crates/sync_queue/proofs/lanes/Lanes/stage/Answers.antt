use Rattle.std.proofs.Common.{ap, sym, ◌∙◌}
use Rattle.sync_queue.specs.Steps.Lanes.{stage_in}
use Rattle.sync_queue.proofs.MapPlaces.{entry_key}
use Rattle.sync_queue.proofs.lanes.Lanes.stage.Goals as goal

pub returns : goal.returns
returns c =
    let l = c.args.self.now in
    ap (stage_in l) (entry_key l.stages.entries c.args.place c.in-Some.field-0-0.now c.in-Some.stage.now (sym c.in-Some.ensures.entry)) ∙ c.in-Some.ensures.value
