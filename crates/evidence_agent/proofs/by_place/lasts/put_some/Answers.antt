use Rattle.std.proofs.Common.{ap, sym, subst}
use Rattle.std.specs.Prelude.{Option, option_map}
use Rattle.std.proofs.lemmas.Result.{on_ok_weaker}
use Rattle.evidence_agent.specs.declared.by_place.topics.Topic.{Topic}
use Rattle.evidence_agent.specs.Places.Steps.Putting.{Puts}
use Rattle.evidence_agent.specs.Places.Topics.{topic_by}
use Rattle.evidence_agent.proofs.by_place.lasts.put_some.Goals as goal

pub returns-in-Some-clause-ok : goal.returns-in-Some-clause-ok
returns-in-Some-clause-ok c = on_ok_weaker c.put_about.result (λ put. subst
    (λ (o : Option Topic). Puts o c.args.place c.args.rows.now.items c.put_about.new.rows.items) (ap (option_map topic_by) (sym c.in-Some.is)) put) c.put_about.ensures.ok
