use Rattle.side_examples.proofs.Quotas.{noted_examples}
use Rattle.side_examples.proofs.noted_examples.Goals as goal

pub returns : goal.returns
returns c = noted_examples
