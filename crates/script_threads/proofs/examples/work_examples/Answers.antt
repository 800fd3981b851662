use Rattle.script_threads.proofs.Computed.{work}
use Rattle.script_threads.proofs.examples.work_examples.Goals as goal

pub returns : goal.returns
returns c = work
