use Rattle.settling_examples.proofs.Ops.{ops_examples}
use Rattle.settling_examples.proofs.ops_examples.Goals as goal

pub returns : goal.returns
returns c = ops_examples
