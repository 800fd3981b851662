use Rattle.side_examples.proofs.Growing.{lets_examples}
use Rattle.side_examples.proofs.lets_examples.Goals as goal

pub returns : goal.returns
returns c = lets_examples
