use Rattle.indexmap.specs.IndexMap.{keys}
use Rattle.indexmap.proofs.CallerLemmas.{keys-with_value_at, updates-with_value_at}
use Rattle.kube_objects.proofs.SameKeys.{same_key_equivalence}
use Rattle.sync_queue.specs.Steps.Places.{key_there}
use Rattle.sync_queue.proofs.MapPlaces.{entry_there}
use Rattle.sync_queue.proofs.lanes.set_stage.Goals as goal

pub returns : goal.returns
returns c =
    let m = c.args.stages.now in
    let i = c.args.place in
    let e = entry_there m.entries i c.requires in
    let u = updates-with_value_at m i c.args.stage same_key_equivalence c.len.ensures.unique (key_there (keys m) i) e.0 e.1 in
    record { set = λ q. u.0 q; keys = keys-with_value_at m i c.args.stage }
