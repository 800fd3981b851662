use Rattle.plain_data.proofs.RowFacts.{searched}
use Rattle.kube_objects.proofs.KeyOrder.{key_cmp_total}
use Rattle.informer_cache.specs.Marks.{mark_key}
use Rattle.informer_cache.proofs.marks.searched_place.Goals as goal

pub returns : goal.returns
returns c =
    let facts = c.place_of.ensures in
    let place = searched key_cmp_total mark_key c.args.key.now _ _ c.requires facts.bound facts.position in
    record { bound = facts.bound; at = place.at; gap = place.gap }
