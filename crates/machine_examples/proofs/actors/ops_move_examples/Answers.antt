use Rattle.machine_examples.proofs.Actor.OpsActing.{moves}
use Rattle.machine_examples.proofs.actors.ops_move_examples.Goals as goal

pub returns : goal.returns
returns c = moves
