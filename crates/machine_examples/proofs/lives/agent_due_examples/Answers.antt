use Rattle.machine_examples.proofs.Life.Mounting.{due_examples}
use Rattle.machine_examples.proofs.lives.agent_due_examples.Goals as goal

pub returns : goal.returns
returns c = due_examples
