use Rattle.side_examples.proofs.Sides.{counted_examples}
use Rattle.side_examples.proofs.counted_examples.Goals as goal

pub returns : goal.returns
returns c = counted_examples
