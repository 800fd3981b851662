use Rattle.side_examples.proofs.Growing.{row_examples}
use Rattle.side_examples.proofs.row_examples.Goals as goal

pub returns : goal.returns
returns c = row_examples
