use Rattle.plain_data.proofs.RowFacts.{searched}
use Rattle.volume_index.proofs.VolumeOrders.{by_owner_total}
use Rattle.volume_index.proofs.order.owner_place.Goals as goal

pub returns : goal.returns
returns c =
    let facts = c.place_of.ensures in
    let place = searched by_owner_total (λ v. v) c.args.volume.now _ _ c.requires facts.bound facts.position in
    record { bound = facts.bound; at = place.at; gap = place.gap }
