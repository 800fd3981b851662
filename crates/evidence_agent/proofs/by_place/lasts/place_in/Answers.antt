use Rattle.std.proofs.Common.{sym, ap}
use Rattle.std.specs.Prelude.{option_map}
use Rattle.plain_data.proofs.RowFacts.{find_at, find_gap}
use Rattle.evidence_agent.specs.Places.Rows.{place_of, topic_of}
use Rattle.evidence_agent.proofs.Places.Order.{topic_cmp_total}
use Rattle.evidence_agent.proofs.by_place.lasts.place_in.Goals as goal

pub returns-in-Ok : goal.returns-in-Ok
returns-in-Ok c = sym (ap (option_map place_of) (find_at topic_cmp_total topic_of _ _ _ c.index-rows-at.result c.in-Ok.ensures.at))

pub returns-in-Err : goal.returns-in-Err
returns-in-Err c = sym (ap (option_map place_of) (find_gap topic_cmp_total topic_of _ _ _ c.requires c.in-Err.ensures.gap))
