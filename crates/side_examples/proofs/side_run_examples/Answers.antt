use Rattle.side_examples.proofs.Points.{side_run_examples}
use Rattle.side_examples.proofs.side_run_examples.Goals as goal

pub returns : goal.returns
returns c = side_run_examples
