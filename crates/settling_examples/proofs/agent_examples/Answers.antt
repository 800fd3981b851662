use Rattle.settling_examples.proofs.Ending.{agent_examples}
use Rattle.settling_examples.proofs.agent_examples.Goals as goal

pub returns : goal.returns
returns c = agent_examples
