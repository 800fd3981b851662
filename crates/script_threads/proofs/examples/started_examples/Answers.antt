use Rattle.script_threads.proofs.Computed.{started}
use Rattle.script_threads.proofs.examples.started_examples.Goals as goal

pub returns : goal.returns
returns c = started
