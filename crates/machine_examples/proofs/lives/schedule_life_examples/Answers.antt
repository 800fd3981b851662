use Rattle.machine_examples.proofs.Life.Scheduling.{life_examples}
use Rattle.machine_examples.proofs.lives.schedule_life_examples.Goals as goal

pub returns : goal.returns
returns c = life_examples
