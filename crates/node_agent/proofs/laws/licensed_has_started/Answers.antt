use Rattle.node_agent.proofs.Licensed.{licensed_has_started}
use Rattle.node_agent.proofs.laws.licensed_has_started.Goals as goal

pub returns : goal.returns
returns c = licensed_has_started
