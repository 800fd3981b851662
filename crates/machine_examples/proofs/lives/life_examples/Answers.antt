use Rattle.machine_examples.proofs.Life.Computed.{life_examples}
use Rattle.machine_examples.proofs.lives.life_examples.Goals as goal

pub returns : goal.returns
returns c = life_examples
