use Rattle.settling_examples.proofs.Ending.{call_examples}
use Rattle.settling_examples.proofs.call_examples.Goals as goal

pub returns : goal.returns
returns c = call_examples
