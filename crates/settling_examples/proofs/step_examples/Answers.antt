use Rattle.settling_examples.proofs.Rounds.{step_examples}
use Rattle.settling_examples.proofs.step_examples.Goals as goal

pub returns : goal.returns
returns c = step_examples
