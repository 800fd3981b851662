use Rattle.machine_examples.proofs.Actor.Scheduling.{moves}
use Rattle.machine_examples.proofs.actors.scheduler_move_examples.Goals as goal

pub returns : goal.returns
returns c = moves
