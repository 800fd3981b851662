use Rattle.node_agent.proofs.Begun.{decisions}
use Rattle.node_agent.proofs.laws.decisions_keep.Goals as goal

pub returns : goal.returns
returns c = decisions
