use Rattle.node_agent.proofs.Starts.{parked_have_ended}
use Rattle.node_agent.proofs.laws.parked_have_ended.Goals as goal

pub returns : goal.returns
returns c = parked_have_ended
