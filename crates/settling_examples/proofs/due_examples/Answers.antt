use Rattle.settling_examples.proofs.Rounds.{due_examples}
use Rattle.settling_examples.proofs.due_examples.Goals as goal

pub returns : goal.returns
returns c = due_examples
