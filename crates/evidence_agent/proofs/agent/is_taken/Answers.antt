use Rattle.std.proofs.Common.{reverse}
use Rattle.evidence_agent.proofs.Sight.{taken_is}
use Rattle.evidence_agent.proofs.agent.is_taken.Goals as goal

pub returns-in-Some : goal.returns-in-Some
returns-in-Some c = λ t. taken_is (reverse c.args.entries.now) c.args.node.now _ _ c.in-Some.ensures
