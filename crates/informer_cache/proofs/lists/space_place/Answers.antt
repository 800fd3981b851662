use Rattle.plain_data.proofs.RowFacts.{searched}
use Rattle.std.proofs.lemmas.Cmp.{nat_list_cmp_total}
use Rattle.informer_cache.specs.Marks.{space_name}
use Rattle.informer_cache.proofs.lists.space_place.Goals as goal

pub returns : goal.returns
returns c =
    let facts = c.place_of.ensures in
    let place = searched nat_list_cmp_total space_name c.args.namespace.now _ _ c.requires facts.bound facts.position in
    record { bound = facts.bound; at = place.at; gap = place.gap }
