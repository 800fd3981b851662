use Rattle.settling_examples.proofs.Ending.{number_examples}
use Rattle.settling_examples.proofs.number_examples.Goals as goal

pub returns : goal.returns
returns c = number_examples
