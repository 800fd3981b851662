use Rattle.settling_examples.proofs.Ops.{none_due_examples}
use Rattle.settling_examples.proofs.none_due_examples.Goals as goal

pub returns : goal.returns
returns c = none_due_examples
