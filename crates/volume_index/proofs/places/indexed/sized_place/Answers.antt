use Rattle.std.proofs.Common.{sym, subst}
use Rattle.volume_index.specs.VolumeOrders.{AreInOrder, by_size}
use Rattle.volume_index.specs.Steps.VolumePlaces.{IsKept}
use Rattle.volume_index.specs.VolumePlaces.{has_size}
use Rattle.volume_index.proofs.PlacesSized.{sized_counted, sized_kept}
use Rattle.volume_index.proofs.places.indexed.sized_place.Goals as goal

pub kept_place-requires-clause-counted : goal.kept_place-requires-clause-counted
kept_place-requires-clause-counted c =
    sized_counted c.args.size.now.block c.args.size.now.class.now c.all-all.result.now c.size_start-start.result c.all-all.ensures.order
    c.size_start-start.ensures.start c.size_start-start.ensures.bound

pub returns : goal.returns
returns c = λ rows order is stands.
    let block = c.args.size.now.block in
    let class = c.args.size.now.class.now in
    let sorted = subst (AreInOrder by_size) c.all-all.ensures.list c.all-all.ensures.order in
    c.kept_place.ensures rows order is (subst (IsKept (has_size block class) rows) (sym c.all-all.ensures.list) (sized_kept block class rows order c.args.index.now stands sorted))
