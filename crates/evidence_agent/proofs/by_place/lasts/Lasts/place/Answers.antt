use Rattle.std.proofs.Common.{ap, ◌∙◌}
use Rattle.evidence_agent.specs.Places.Rows.{place_in}
use Rattle.evidence_agent.specs.Places.Topics.{topic_by}
use Rattle.evidence_agent.proofs.by_place.lasts.Lasts.place.Goals as goal

pub returns : goal.returns
returns c = λ mine all. c.place_in.ensures ∙ ap (place_in (topic_by c.args.about.now)) (c.deref.ensures.value ∙ c.self.view_is) ∙ all (topic_by c.args.about.now)
