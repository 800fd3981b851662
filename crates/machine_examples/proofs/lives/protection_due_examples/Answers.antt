use Rattle.machine_examples.proofs.Life.Protected.{due_examples}
use Rattle.machine_examples.proofs.lives.protection_due_examples.Goals as goal

pub returns : goal.returns
returns c = due_examples
