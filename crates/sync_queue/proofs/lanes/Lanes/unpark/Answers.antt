use Rattle.std.proofs.Common.{◌<◌, ap, arith, subst, ◌∙◌}
use Rattle.indexmap.specs.IndexMap.{get, keys}
use Rattle.kube_objects.specs.Keys.{same_key}
use Rattle.sync_queue.specs.Steps.Lanes.{stage_in}
use Rattle.sync_queue.proofs.PlaceMoves.{unpark-at}
use Rattle.sync_queue.specs.Steps.Lanes.{work_in}
use Rattle.sync_queue.specs.Work.{queued, unparked}
use Rattle.sync_queue.proofs.MapPlaces.{below_at}
use Rattle.sync_queue.proofs.lanes.Lanes.unpark.Goals as goal

pub set_stage-requires : goal.set_stage-requires
set_stage-requires c = below_at _ _ c.in-Some.at _ c.take_out-place.ensures.place c.requires.sound.places.parked

pub returns-in-Some : goal.returns-in-Some
returns-in-Some c =
    let o = c.args.self.now in
    let s = c.requires.sound in
    let t = c.take_out-place.ensures in
    let set = c.set_stage.ensures in
    let p = c.put_last.ensures in
    let r = s.room in
    let m = unpark-at (keys o.stages) (stage_in o)
    (get same_key c.set_stage.new.stages) o.waiting.items o.taken.items o.parked.items s.lanes s.places.waiting s.places.taken s.places.parked _
    set.keys c.in-Some.at _ t.place (subst (λ n. c.in-Some.at < n) o.parked.ok.0 c.in-Some.ensures.within) set.set _ _ p.items t.items in
    record {
      sound = record {
        lanes = m.lanes;
        places = record { waiting = m.waiting; taken = m.taken; parked = m.parked };
        room = record {
          waiting = omega (arith, t.len, t.capacity, p.len, p.capacity, r.waiting, r.taken, r.parked);
          taken =
              omega (arith, t.len, t.capacity, p.len, p.capacity, r.waiting, r.taken, r.parked);
          parked =
              omega (arith, t.len, t.capacity, p.len, p.capacity, r.waiting, r.taken, r.parked);
        };
      };
      work = m.work ∙ ap (λ k. queued k (unparked k (work_in o))) c.in-Some.ensures.key;
    }
