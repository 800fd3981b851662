use Rattle.std.proofs.Common.{◌<◌, arith, subst}
use Rattle.indexmap.specs.IndexMap.{get, keys}
use Rattle.kube_objects.specs.Keys.{same_key}
use Rattle.sync_queue.specs.Steps.Lanes.{stage_in}
use Rattle.sync_queue.proofs.PlaceMoves.{release-at}
use Rattle.sync_queue.proofs.MapPlaces.{below_at}
use Rattle.sync_queue.proofs.lanes.Lanes.release.Goals as goal

pub returns : goal.returns
returns c =
    let o = c.args.self.now in
    let s = c.requires.sound in
    let t = c.take_out-place.ensures in
    let set = c.set_stage.ensures in
    let r = s.room in
    let m = release-at (keys o.stages) (stage_in o)
    (get same_key c.set_stage.new.stages) o.waiting.items o.taken.items o.parked.items s.lanes s.places.waiting s.places.taken s.places.parked _
    set.keys c.args.at _ t.place (subst (λ n. c.args.at < n) o.taken.ok.0 c.requires.within) set.set _ t.items in
    record {
      sound = record {
        lanes = m.lanes;
        places = record { waiting = m.waiting; taken = m.taken; parked = m.parked };
        room = record {
          waiting = omega (arith, t.len, t.capacity, r.waiting, r.taken, r.parked);
          taken =
              omega (arith, t.len, t.capacity, r.waiting, r.taken, r.parked);
          parked = omega (arith, t.len, t.capacity, r.waiting, r.taken, r.parked);
        };
      };
      work = m.work;
    }

pub set_stage-requires : goal.set_stage-requires
set_stage-requires c = below_at _ _ c.args.at _ c.take_out-place.ensures.place c.requires.sound.places.taken
