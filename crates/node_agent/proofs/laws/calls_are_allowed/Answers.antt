use Rattle.node_agent.proofs.Allowed.{allowed}
use Rattle.node_agent.proofs.laws.calls_are_allowed.Goals as goal

pub returns : goal.returns
returns c = allowed
