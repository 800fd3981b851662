use Rattle.machine_examples.proofs.Actor.NodeAgents.{decisions}
use Rattle.machine_examples.proofs.actors.agent_decision_examples.Goals as goal

pub returns : goal.returns
returns c = decisions
