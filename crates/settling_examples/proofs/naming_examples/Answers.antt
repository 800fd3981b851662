use Rattle.settling_examples.proofs.Ending.{naming_examples}
use Rattle.settling_examples.proofs.naming_examples.Goals as goal

pub returns : goal.returns
returns c = naming_examples
