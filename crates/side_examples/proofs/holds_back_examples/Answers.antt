use Rattle.side_examples.proofs.Points.{holds_back_examples}
use Rattle.side_examples.proofs.holds_back_examples.Goals as goal

pub returns : goal.returns
returns c = holds_back_examples
