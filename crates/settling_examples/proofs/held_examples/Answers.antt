use Rattle.settling_examples.proofs.Held.{held_examples}
use Rattle.settling_examples.proofs.held_examples.Goals as goal

pub returns : goal.returns
returns c = held_examples
