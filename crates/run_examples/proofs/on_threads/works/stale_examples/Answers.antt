use Rattle.run_examples.proofs.Threads.Whole.{stale_cases}
use Rattle.run_examples.proofs.on_threads.works.stale_examples.Goals as goal

pub returns : goal.returns
returns c = stale_cases
