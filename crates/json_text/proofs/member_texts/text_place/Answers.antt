use Rattle.std.proofs.lemmas.Cmp.{nat_list_cmp_total}
use Rattle.plain_data.specs.Pairs.{pair_key}
use Rattle.plain_data.proofs.RowFacts.{searched}
use Rattle.json_text.proofs.member_texts.text_place.Goals as goal

pub returns : goal.returns
returns c =
    let facts = c.place_of.ensures in
    let place = searched nat_list_cmp_total pair_key c.args.key.now _ _ c.requires facts.bound facts.position in
    record { bound = facts.bound; at = place.at; gap = place.gap }
