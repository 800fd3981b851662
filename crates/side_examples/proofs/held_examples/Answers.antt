use Rattle.side_examples.proofs.Sides.{held_examples}
use Rattle.side_examples.proofs.held_examples.Goals as goal

pub returns : goal.returns
returns c = held_examples
