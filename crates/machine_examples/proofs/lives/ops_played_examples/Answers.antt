use Rattle.machine_examples.proofs.Life.Reclaimed.{played_examples}
use Rattle.machine_examples.proofs.lives.ops_played_examples.Goals as goal

pub returns : goal.returns
returns c = played_examples
