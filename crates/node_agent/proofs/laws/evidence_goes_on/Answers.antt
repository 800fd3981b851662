use Rattle.node_agent.proofs.Moves.{goes_on}
use Rattle.node_agent.proofs.laws.evidence_goes_on.Goals as goal

pub returns : goal.returns
returns c = goes_on
