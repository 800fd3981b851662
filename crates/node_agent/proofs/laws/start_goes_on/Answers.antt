use Rattle.node_agent.proofs.Starts.{start_goes_on}
use Rattle.node_agent.proofs.laws.start_goes_on.Goals as goal

pub returns : goal.returns
returns c = start_goes_on
