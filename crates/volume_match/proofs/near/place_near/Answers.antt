use Rattle.volume_match.proofs.KindSearch.{order_seen, row_there}
use Rattle.volume_match.proofs.near.place_near.Goals as goal

pub returns-in-Equal-clause-found : goal.returns-in-Equal-clause-found
returns-in-Equal-clause-found g c =
    row_there c.args.kind c.args.namespace.now c.args.name.now _ _ c.at.ensures.order (order_seen c.args.kind c.args.namespace.now c.args.name.now _ _ _ c.at.ensures.object c.in-Equal.ensures)
