use Rattle.plain_data.proofs.RowFacts.{searched}
use Rattle.kube_objects.specs.Keys.{key_of}
use Rattle.kube_objects.proofs.KeyOrder.{key_cmp_total}
use Rattle.kube_types.proofs.table.row_place.Goals as goal

pub returns : goal.returns
returns c =
    let facts = c.place_of.ensures in
    let place = searched key_cmp_total key_of c.args.key.now _ _ c.requires facts.bound facts.position in
    record { bound = facts.bound; at = place.at; gap = place.gap }
