use Rattle.machine_examples.proofs.Actor.NodeAgents.{silence}
use Rattle.machine_examples.proofs.actors.agent_silence_examples.Goals as goal

pub returns : goal.returns
returns c = silence
