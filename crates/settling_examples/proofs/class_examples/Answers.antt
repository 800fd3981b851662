use Rattle.settling_examples.proofs.Ending.{class_examples}
use Rattle.settling_examples.proofs.class_examples.Goals as goal

pub returns : goal.returns
returns c = class_examples
