use Rattle.side_examples.proofs.Sizes.{leaving_examples}
use Rattle.side_examples.proofs.leaving_examples.Goals as goal

pub returns : goal.returns
returns c = leaving_examples
