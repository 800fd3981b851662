use Rattle.evidence_agent.proofs.Sight.{current_by}
use Rattle.evidence_agent.proofs.agent.is_current.Goals as goal

pub returns-in-Some : goal.returns-in-Some
returns-in-Some c = λ t. current_by _ c.args.node.now c.args.epoch _ c.in-Some.ensures
