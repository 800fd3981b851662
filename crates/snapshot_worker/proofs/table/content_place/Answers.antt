use Rattle.std.proofs.lemmas.Cmp.{nat_list_cmp_total}
use Rattle.plain_data.proofs.RowFacts.{searched}
use Rattle.snapshot_worker.specs.Workers.{seen_name}
use Rattle.snapshot_worker.proofs.table.content_place.Goals as goal

pub returns : goal.returns
returns c =
    let facts = c.place_of.ensures in
    let place = searched nat_list_cmp_total seen_name c.args.name.now _ _ c.requires facts.bound facts.position in
    record { bound = facts.bound; at = place.at; gap = place.gap }
