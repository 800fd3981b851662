use Rattle.machine_examples.proofs.Life.Computed.{played_examples}
use Rattle.machine_examples.proofs.lives.played_examples.Goals as goal

pub returns : goal.returns
returns c = played_examples
