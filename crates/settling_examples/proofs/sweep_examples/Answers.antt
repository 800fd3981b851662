use Rattle.settling_examples.proofs.Costs.{sweep_examples}
use Rattle.settling_examples.proofs.sweep_examples.Goals as goal

pub returns : goal.returns
returns c = sweep_examples
