use Rattle.node_agent.proofs.Starts.{untold_has_started}
use Rattle.node_agent.proofs.laws.untold_has_started.Goals as goal

pub returns : goal.returns
returns c = untold_has_started
