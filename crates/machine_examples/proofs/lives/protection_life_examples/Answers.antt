use Rattle.machine_examples.proofs.Life.Protected.{life_examples}
use Rattle.machine_examples.proofs.lives.protection_life_examples.Goals as goal

pub returns : goal.returns
returns c = life_examples
