use Rattle.machine_examples.proofs.Life.Reclaimed.{life_examples}
use Rattle.machine_examples.proofs.lives.ops_life_examples.Goals as goal

pub returns : goal.returns
returns c = life_examples
