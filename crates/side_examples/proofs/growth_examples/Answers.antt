use Rattle.side_examples.proofs.Sizes.{growth_examples}
use Rattle.side_examples.proofs.growth_examples.Goals as goal

pub returns : goal.returns
returns c = growth_examples
