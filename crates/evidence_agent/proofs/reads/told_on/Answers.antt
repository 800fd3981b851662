use Rattle.evidence_agent.proofs.Sight.{told_there}
use Rattle.evidence_agent.proofs.reads.told_on.Goals as goal

pub returns-in-Done : goal.returns-in-Done
returns-in-Done c = told_there c.args.page.now c.args.place c.index-page-place.result c.index-page-place.result c.in-Done.object c.requires c.index-page-place.is c.if-not-entry.false c.in-Done.is
