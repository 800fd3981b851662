use Rattle.side_examples.proofs.Growing.{fault_examples}
use Rattle.side_examples.proofs.fault_examples.Goals as goal

pub returns : goal.returns
returns c = fault_examples
