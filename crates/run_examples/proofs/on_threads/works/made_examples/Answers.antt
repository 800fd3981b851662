use Rattle.run_examples.proofs.Threads.Calls.{made_cases}
use Rattle.run_examples.proofs.on_threads.works.made_examples.Goals as goal

pub returns : goal.returns
returns c = made_cases
