use Rattle.machine_examples.proofs.Life.Mounting.{played_examples}
use Rattle.machine_examples.proofs.lives.agent_played_examples.Goals as goal

pub returns : goal.returns
returns c = played_examples
