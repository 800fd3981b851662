use Rattle.run_examples.proofs.Threads.Users.{user_cases}
use Rattle.run_examples.proofs.on_threads.works.user_examples.Goals as goal

pub returns : goal.returns
returns c = user_cases
