use Rattle.settling_examples.proofs.Near.{near_examples}
use Rattle.settling_examples.proofs.near_examples.Goals as goal

pub returns : goal.returns
returns c = near_examples
