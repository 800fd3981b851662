use Rattle.std.proofs.Common.{◌≡◌, [], ◌∷◌, ◌++◌, Some, None, ap, cond, subst, sym, ◌∙◌, arith}
use Rattle.indexmap.specs.IndexMap.{get, keys}
use Rattle.kube_objects.specs.Keys.{same_key}
use Rattle.sync_queue.specs.Steps.Lanes.{stage_in}
use Rattle.sync_queue.proofs.PlaceMoves.{admit-at}
use Rattle.std.specs.Map.{keys_of}
use Rattle.indexmap.proofs.CallerLemmas.{insert_entry-new}
use Rattle.sync_queue.specs.declared.lanes.KeyStage.TheVariants.{Waiting}
use Rattle.sync_queue.specs.Steps.Lanes.{IsSet}
use Rattle.sync_queue.specs.Work.{queued}
use Rattle.sync_queue.proofs.MapPlaces.{keys_of_more, length-keys_of}
use Rattle.sync_queue.proofs.Moves.{away_none}
use Rattle.sync_queue.proofs.lanes.Lanes.admit.Goals as goal

pub returns : goal.returns
returns c =
    let w = c.make_room.new.self in
    let n = c.insert.new.self in
    let k = c.args.key.now in
    let p = c.put_last.ensures in
    let s = c.make_room.ensures.sound in
    let r = c.in_ok-make_room.ensures.room in
    let own = c.in_ok-owned.ensures in
    let set : IsSet (stage_in w) k (Some Waiting) (get same_key n) = λ q. subst (λ j. get same_key n q ≡ cond (same_key j q) (Some Waiting) (stage_in w q)) own (c.in_ok-insert.ensures.updates.0 q) in
    let none : stage_in w k ≡ None = ap (λ s. get same_key s k) c.make_room.ensures.stages ∙ c.requires.absent in
    let new = c.in_ok-owned.owned in
    let es = w.stages.entries in
    let more = ap keys_of (c.in_ok-insert.ensures.entries ∙ insert_entry-new same_key w.stages new Waiting (ap (stage_in w) own ∙ none))
    ∙ (keys_of_more es new Waiting ∙ ap (λ j. keys_of es ++ j ∷ []) own) in
    let m = admit-at (keys w.stages) k (keys n) (stage_in w) (get same_key n) w.waiting.items w.taken.items w.parked.items c.len-place.result more
    (c.len-place.ensures.len ∙ sym (length-keys_of w.stages.entries)) s.lanes s.places.waiting s.places.taken s.places.parked set (away_none _ none) _ p.items in
    record {
      sound = record {
        lanes = m.lanes;
        places = record { waiting = m.waiting; taken = m.taken; parked = m.parked };
        room = record {
          waiting = omega (arith, p.len, p.capacity, r.waiting, r.taken, r.parked);
          taken =
              omega (arith, p.len, p.capacity, r.waiting, r.taken, r.parked);
          parked = omega (arith, p.len, p.capacity, r.waiting, r.taken, r.parked);
        };
      };
      ok = m.work ∙ ap (queued k) c.make_room.ensures.work;
      err = tt;
    }
