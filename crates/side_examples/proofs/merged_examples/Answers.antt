use Rattle.side_examples.proofs.Points.{merged_examples}
use Rattle.side_examples.proofs.merged_examples.Goals as goal

pub returns : goal.returns
returns c = merged_examples
