use Rattle.machine_examples.proofs.Life.Computed.{due_examples}
use Rattle.machine_examples.proofs.lives.due_examples.Goals as goal

pub returns : goal.returns
returns c = due_examples
