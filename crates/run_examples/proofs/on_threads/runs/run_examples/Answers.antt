use Rattle.run_examples.proofs.Threads.Drains.{run_cases}
use Rattle.run_examples.proofs.on_threads.runs.run_examples.Goals as goal

pub returns : goal.returns
returns c = run_cases
