use Rattle.indexmap.specs.IndexMap.{get, keys}
use Rattle.kube_objects.specs.Keys.{same_key}
use Rattle.sync_queue.specs.Steps.Lanes.{stage_in}
use Rattle.sync_queue.proofs.PlaceMoves.{mark-at}
use Rattle.sync_queue.proofs.lanes.Lanes.mark.Goals as goal

pub returns : goal.returns
returns c =
    let o = c.args.self.now in
    let s = c.requires.sound in
    let set = c.set_stage.ensures in
    let m = mark-at (keys o.stages) (stage_in o)
    (get same_key c.set_stage.new.stages) o.waiting.items o.taken.items o.parked.items _ s.lanes s.places.waiting s.places.taken s.places.parked _ set.keys set.set c.requires.taken in
    record { sound = record { lanes = m.lanes; places = record { waiting = m.waiting; taken = m.taken; parked = m.parked }; room = s.room }; work = m.work }
