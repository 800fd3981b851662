use Rattle.side_examples.proofs.Sizes.{step_examples}
use Rattle.side_examples.proofs.step_examples.Goals as goal

pub returns : goal.returns
returns c = step_examples
