use Rattle.machine_examples.proofs.Life.Scheduling.{due_examples}
use Rattle.machine_examples.proofs.lives.schedule_due_examples.Goals as goal

pub returns : goal.returns
returns c = due_examples
