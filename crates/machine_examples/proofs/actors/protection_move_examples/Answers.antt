use Rattle.machine_examples.proofs.Actor.Protected.{moves}
use Rattle.machine_examples.proofs.actors.protection_move_examples.Goals as goal

pub returns : goal.returns
returns c = moves
