use Rattle.plain_data.proofs.RowFacts.{searched}
use Rattle.evidence_agent.specs.Places.Rows.{topic_of}
use Rattle.evidence_agent.specs.Places.Topics.{topic_by}
use Rattle.evidence_agent.proofs.Places.Order.{topic_cmp_total}
use Rattle.evidence_agent.proofs.by_place.lasts.row_place.Goals as goal

pub returns : goal.returns
returns c =
    let facts = c.place_of.ensures in
    let place = searched topic_cmp_total topic_of (topic_by c.args.about.now) _ _ c.requires facts.bound facts.position in
    record { bound = facts.bound; at = place.at; gap = place.gap }
