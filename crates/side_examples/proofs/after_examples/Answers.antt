use Rattle.side_examples.proofs.Sides.{after_examples}
use Rattle.side_examples.proofs.after_examples.Goals as goal

pub returns : goal.returns
returns c = after_examples
