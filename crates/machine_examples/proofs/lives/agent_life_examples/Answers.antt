use Rattle.machine_examples.proofs.Life.Mounting.{life_examples}
use Rattle.machine_examples.proofs.lives.agent_life_examples.Goals as goal

pub returns : goal.returns
returns c = life_examples
