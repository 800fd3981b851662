use Rattle.machine_examples.proofs.Actor.Computed.{agents}
use Rattle.machine_examples.proofs.actors.agent_examples.Goals as goal

pub returns : goal.returns
returns c = agents
