use Rattle.std.proofs.lemmas.Cmp.{nat_cmp_total}
use Rattle.plain_data.proofs.RowFacts.{searched}
use Rattle.script_text.proofs.progress.fault_place.Goals as goal

pub returns : goal.returns
returns c =
    let facts = c.binary_search.ensures in
    let place = searched nat_cmp_total (λ n. n) c.args.call _ _ c.requires facts.bound facts.position in
    record { bound = facts.bound; at = place.at; gap = place.gap }
