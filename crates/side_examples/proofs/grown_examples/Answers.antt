use Rattle.side_examples.proofs.Points.{grown_examples}
use Rattle.side_examples.proofs.grown_examples.Goals as goal

pub returns : goal.returns
returns c = grown_examples
