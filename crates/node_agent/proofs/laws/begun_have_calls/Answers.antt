use Rattle.node_agent.proofs.Begun.{begun_have_calls}
use Rattle.node_agent.proofs.laws.begun_have_calls.Goals as goal

pub returns : goal.returns
returns c = begun_have_calls
