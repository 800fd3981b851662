use Rattle.side_examples.proofs.Quotas.{grown_in_examples}
use Rattle.side_examples.proofs.grown_in_examples.Goals as goal

pub returns : goal.returns
returns c = grown_in_examples
