use Rattle.std.proofs.Common.{ap, ◌∙◌}
use Rattle.std.proofs.lemmas.Result.{on_ok_weaker}
use Rattle.evidence_agent.specs.Places.Rows.{place_in}
use Rattle.evidence_agent.specs.Places.Topics.{topic_by}
use Rattle.evidence_agent.proofs.Places.Putting.{place_put}
use Rattle.evidence_agent.proofs.by_place.lasts.put_about.Goals as goal

pub returns-clause-ok : goal.returns-clause-ok
returns-clause-ok c = on_ok_weaker c.put_at.result (λ put t. ap (place_in t) put ∙ place_put t (topic_by c.args.about.now) c.args.place c.args.rows.now.items) c.put_at.ensures.ok
