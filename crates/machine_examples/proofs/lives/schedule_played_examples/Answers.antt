use Rattle.machine_examples.proofs.Life.Scheduling.{played_examples}
use Rattle.machine_examples.proofs.lives.schedule_played_examples.Goals as goal

pub returns : goal.returns
returns c = played_examples
