use Rattle.std.proofs.Common.{subst}
use Rattle.volume_index.specs.Steps.VolumePlaces.{IsVolumeAt}
use Rattle.volume_index.proofs.PlacesKept.{held_in, none_there, there_is}
use Rattle.volume_index.proofs.places.indexed.kept_place.Goals as goal

pub returns-in-None : goal.returns-in-None
returns-in-None g c = λ rows order is kept. none_there (g.W.Wanted.test c.args.wanted.now) rows order c.args.kept.now kept c.args.nth c.in-None.ensures.none

pub returns-in-Some : goal.returns-in-Some
returns-in-Some g c = λ rows order is kept.
    let held = held_in (g.W.Wanted.test c.args.wanted.now) rows order c.args.kept.now kept c.in-Some.volume.now c.deref.result.now c.deref.ensures c.in-Some.ensures.held in
    there_is (g.W.Wanted.test c.args.wanted.now) rows order c.args.kept.now kept c.in-Some.volume.now c.deref.result.now c.args.nth c.deref.ensures c.in-Some.ensures.passes c.in-Some.ensures.before
    c.place_in.result (subst (λ os. IsVolumeAt os c.deref.result.now c.place_in.result) is (c.place_in.ensures rows order is held))
