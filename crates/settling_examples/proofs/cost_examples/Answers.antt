use Rattle.settling_examples.proofs.Costs.{cost_examples}
use Rattle.settling_examples.proofs.cost_examples.Goals as goal

pub returns : goal.returns
returns c = cost_examples
