use Rattle.machine_examples.proofs.Life.Reclaimed.{due_examples}
use Rattle.machine_examples.proofs.lives.ops_due_examples.Goals as goal

pub returns : goal.returns
returns c = due_examples
