use Rattle.snapshot_bind.proofs.Orders.{snap_cmp_total}
use Rattle.plain_data.proofs.RowFacts.{searched}
use Rattle.snapshot_worker.specs.Workers.{seen_key}
use Rattle.snapshot_worker.proofs.table.snapshot_place.Goals as goal

pub returns : goal.returns
returns c =
    let facts = c.place_of.ensures in
    let place = searched snap_cmp_total seen_key (c.args.namespace.now, c.args.name.now) _ _ c.requires facts.bound facts.position in
    record { bound = facts.bound; at = place.at; gap = place.gap }
