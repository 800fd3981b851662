use Rattle.side_examples.proofs.Quotas.{used_examples}
use Rattle.side_examples.proofs.used_examples.Goals as goal

pub returns : goal.returns
returns c = used_examples
