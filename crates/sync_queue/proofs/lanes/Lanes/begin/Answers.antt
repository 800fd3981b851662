use Rattle.std.proofs.Common.{◌<◌, Some, ap, arith, length, subst, sym, ◌∙◌}
use Rattle.indexmap.specs.IndexMap.{get, keys}
use Rattle.kube_objects.specs.Keys.{same_key}
use Rattle.sync_queue.specs.Steps.Lanes.{stage_in}
use Rattle.sync_queue.proofs.PlaceMoves.{begin-at}
use Rattle.sync_queue.specs.Steps.Places.{AreBelow, key_there, keys_at}
use Rattle.sync_queue.specs.Work.{oldest_of}
use Rattle.sync_queue.proofs.lanes.Lanes.begin.Goals as goal

pub returns : goal.returns
returns c =
    let o = c.args.self.now in
    let s = c.requires in
    let t = c.in_ok-place.ensures in
    let set = c.set_stage.ensures in
    let p = c.put_last.ensures in
    let f = c.pop_front.ensures.capacity in
    let r = s.room in
    let ks = keys o.stages in
    let b = subst (AreBelow (length ks)) t.items s.places.waiting in
    let m = begin-at (keys o.stages) (stage_in o)
    (get same_key c.set_stage.new.stages) o.waiting.items _ o.taken.items o.parked.items _ t.items s.lanes s.places.waiting s.places.taken s.places.parked _ set.keys set.set _ p.items in
    record {
      sound = record {
        lanes = m.lanes;
        places = record { waiting = m.waiting; taken = m.taken; parked = m.parked };
        room =
            record {
              waiting = omega (arith, t.cases, f, p.len, p.capacity, r.waiting, r.taken, r.parked);
              taken =
                  omega (arith, t.cases, f, p.len, p.capacity, r.waiting, r.taken, r.parked);
              parked = omega (arith, t.cases, f, p.len, p.capacity, r.waiting, r.taken, r.parked);
            };
      };
      none = tt;
      key = ap (λ us. oldest_of (keys_at ks us)) t.items ∙ ap (λ js. Some (key_there js c.in_ok-place.place)) (sym set.keys);
      within = subst (λ js. c.in_ok-place.place < length js) (sym set.keys) b.0;
      work = m.work;
    }

pub set_stage-requires : goal.set_stage-requires
set_stage-requires c =
    let b = subst (AreBelow (length (keys c.args.self.now.stages))) c.in_ok-place.ensures.items c.requires.places.waiting in
    b.0
