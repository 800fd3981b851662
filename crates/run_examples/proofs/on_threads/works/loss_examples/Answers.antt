use Rattle.run_examples.proofs.Threads.Calls.{loss_cases}
use Rattle.run_examples.proofs.on_threads.works.loss_examples.Goals as goal

pub returns : goal.returns
returns c = loss_cases
