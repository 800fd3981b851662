use Rattle.std.proofs.Common.{sym, ◌∙◌}
use Rattle.kube_objects.specs.Keys.{same_key}
use Rattle.sync_queue.proofs.KeyFacts.{key_is}
use Rattle.sync_queue.proofs.MapPlaces.{entry_key}
use Rattle.sync_queue.proofs.Places.{stands_at}
use Rattle.sync_queue.proofs.lanes.Lanes.find.Goals as goal

pub returns-clause-key : goal.returns-clause-key
returns-clause-key c =
    let es = c.args.self.now.stages.entries in
    let s = stands_at (same_key c.args.key.now) es c.in_ok-place.place c.in_ok-place.ensures.index in
    entry_key es _ s.key s.value s.at ∙ sym (key_is _ _ s.passes)
