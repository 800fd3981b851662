use Rattle.settling_examples.proofs.Ops.{left_examples}
use Rattle.settling_examples.proofs.left_examples.Goals as goal

pub returns : goal.returns
returns c = left_examples
