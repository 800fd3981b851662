use Rattle.side_examples.proofs.Points.{within_examples}
use Rattle.side_examples.proofs.within_examples.Goals as goal

pub returns : goal.returns
returns c = within_examples
