use Rattle.kube_objects.proofs.KeyOrder.{key_cmp_total}
use Rattle.plain_data.proofs.RowFacts.{searched}
use Rattle.expand_ops.specs.Sizes.{size_key}
use Rattle.expand_ops.proofs.rows.place_of_key.Goals as goal

pub returns : goal.returns
returns c =
    let facts = c.place_of.ensures in
    let place = searched key_cmp_total size_key c.args.key.now _ _ c.requires facts.bound facts.position in
    record { bound = facts.bound; at = place.at; gap = place.gap }
