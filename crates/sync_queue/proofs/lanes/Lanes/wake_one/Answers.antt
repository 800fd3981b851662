use Rattle.std.proofs.Common.{ap, arith, sym}
use Rattle.indexmap.specs.IndexMap.{get, keys}
use Rattle.kube_objects.specs.Keys.{same_key}
use Rattle.sync_queue.specs.Steps.Lanes.{stage_in}
use Rattle.sync_queue.proofs.PlaceMoves.{wake-at}
use Rattle.std.specs.Prelude.{is_some}
use Rattle.sync_queue.specs.Steps.Places.{keys_at}
use Rattle.sync_queue.specs.Work.{oldest_of}
use Rattle.sync_queue.proofs.lanes.Lanes.wake_one.Goals as goal

pub returns-in-Some : goal.returns-in-Some
returns-in-Some c =
    let o = c.args.self.now in
    let s = c.requires in
    let t = c.in-Some.ensures in
    let set = c.set_stage.ensures in
    let p = c.put_last.ensures in
    let f = c.pop_front.ensures.capacity in
    let r = s.room in
    let m = wake-at (keys o.stages) (stage_in o)
    (get same_key c.set_stage.new.stages) o.waiting.items o.taken.items o.parked.items _ c.in-Some.place t.items s.lanes s.places.waiting
    s.places.taken s.places.parked _ set.keys set.set _ p.items in
    record {
      sound = record {
        lanes = m.lanes;
        places = record { waiting = m.waiting; taken = m.taken; parked = m.parked };
        room = record {
          waiting = omega (arith, t.cases, f, p.len, p.capacity, r.waiting, r.taken, r.parked);
          taken =
              omega (arith, t.cases, f, p.len, p.capacity, r.waiting, r.taken, r.parked);
          parked =
              omega (arith, t.cases, f, p.len, p.capacity, r.waiting, r.taken, r.parked);
        };
      };
      some = sym (ap (λ ks. is_some (oldest_of (keys_at (keys o.stages) ks))) t.items);
      work = m.work;
    }
