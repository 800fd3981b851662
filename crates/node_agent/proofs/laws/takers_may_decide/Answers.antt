use Rattle.node_agent.proofs.Histories.{takers_may_decide}
use Rattle.node_agent.proofs.laws.takers_may_decide.Goals as goal

pub returns : goal.returns
returns c = takers_may_decide
