use Rattle.machine_examples.proofs.Actor.NodeAgents.{moves}
use Rattle.machine_examples.proofs.actors.agent_move_examples.Goals as goal

pub returns : goal.returns
returns c = moves
