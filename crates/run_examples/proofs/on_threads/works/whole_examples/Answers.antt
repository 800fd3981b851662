use Rattle.run_examples.proofs.Threads.Whole.{whole_cases}
use Rattle.run_examples.proofs.on_threads.works.whole_examples.Goals as goal

pub returns : goal.returns
returns c = whole_cases
