use Rattle.machine_examples.proofs.Life.Computed.{watch_examples}
use Rattle.machine_examples.proofs.lives.watch_examples.Goals as goal

pub returns : goal.returns
returns c = watch_examples
