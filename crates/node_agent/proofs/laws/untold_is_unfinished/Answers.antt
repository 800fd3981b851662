use Rattle.node_agent.proofs.Licensed.{untold_is_unfinished}
use Rattle.node_agent.proofs.laws.untold_is_unfinished.Goals as goal

pub returns : goal.returns
returns c = untold_is_unfinished
