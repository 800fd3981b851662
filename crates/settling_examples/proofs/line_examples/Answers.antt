use Rattle.settling_examples.proofs.Ending.{line_examples}
use Rattle.settling_examples.proofs.line_examples.Goals as goal

pub returns : goal.returns
returns c = line_examples
