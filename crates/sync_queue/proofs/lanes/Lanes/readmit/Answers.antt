use Rattle.std.proofs.Common.{◌≡◌, ◌<◌, Some, ap, subst, sym, length, ◌∙◌, arith}
use Rattle.indexmap.specs.IndexMap.{get, keys}
use Rattle.kube_objects.specs.Keys.{same_key}
use Rattle.sync_queue.specs.Steps.Lanes.{stage_in}
use Rattle.sync_queue.proofs.PlaceMoves.{readmit-at}
use Rattle.sync_queue.specs.declared.lanes.KeyStage.TheVariants.{Gone}
use Rattle.sync_queue.specs.Steps.Lanes.{work_in}
use Rattle.sync_queue.specs.Steps.Places.{key_there}
use Rattle.sync_queue.specs.Work.{queued}
use Rattle.sync_queue.proofs.Moves.{away_gone}
use Rattle.sync_queue.proofs.lanes.Lanes.readmit.Goals as goal

pub returns : goal.returns
returns c =
    let o = c.args.self.now in
    let w = c.make_room.new.self in
    let i = c.args.place in
    let p = c.put_last.ensures in
    let s = c.make_room.ensures.sound in
    let set = c.set_stage.ensures in
    let r = c.in_ok-make_room.ensures.room in
    let kept = c.make_room.ensures.stages in
    let lt : i < length (keys w.stages) = subst (λ l. i < length (keys l)) (sym kept) c.requires.within in
    let gone : stage_in w (key_there (keys w.stages) i) ≡ Some Gone = subst (λ l. get same_key l (key_there (keys l) i) ≡ Some Gone) (sym kept) c.requires.gone in
    let m = readmit-at (keys w.stages) (stage_in w)
    (get same_key c.set_stage.new.stages) w.waiting.items w.taken.items w.parked.items i lt s.lanes s.places.waiting s.places.taken
    s.places.parked _ set.keys set.set (away_gone _ gone) _ p.items in
    record {
      sound = record {
        lanes = m.lanes;
        places = record { waiting = m.waiting; taken = m.taken; parked = m.parked };
        room = record {
          waiting = omega (arith, p.len, p.capacity, r.waiting, r.taken, r.parked);
          taken =
              omega (arith, p.len, p.capacity, r.waiting, r.taken, r.parked);
          parked = omega (arith, p.len, p.capacity, r.waiting, r.taken, r.parked);
        };
      };
      ok = m.work ∙ ap (queued (key_there (keys w.stages) i)) c.make_room.ensures.work ∙ ap (λ l. queued (key_there (keys l) i) (work_in c.args.self.now)) kept;
      err = tt;
    }
