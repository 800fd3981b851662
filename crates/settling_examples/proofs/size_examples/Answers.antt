use Rattle.settling_examples.proofs.Ending.{size_examples}
use Rattle.settling_examples.proofs.size_examples.Goals as goal

pub returns : goal.returns
returns c = size_examples
