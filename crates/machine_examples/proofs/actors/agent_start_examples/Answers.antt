use Rattle.machine_examples.proofs.Actor.NodeAgents.{starts}
use Rattle.machine_examples.proofs.actors.agent_start_examples.Goals as goal

pub returns : goal.returns
returns c = starts
