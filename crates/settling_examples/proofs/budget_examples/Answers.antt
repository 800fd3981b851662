use Rattle.settling_examples.proofs.Ending.{budget_examples}
use Rattle.settling_examples.proofs.budget_examples.Goals as goal

pub returns : goal.returns
returns c = budget_examples
