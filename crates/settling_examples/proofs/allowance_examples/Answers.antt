use Rattle.settling_examples.proofs.Ending.{allowance_examples}
use Rattle.settling_examples.proofs.allowance_examples.Goals as goal

pub returns : goal.returns
returns c = allowance_examples
