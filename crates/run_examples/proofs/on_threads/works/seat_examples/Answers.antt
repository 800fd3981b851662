use Rattle.run_examples.proofs.Threads.Users.{seat_cases}
use Rattle.run_examples.proofs.on_threads.works.seat_examples.Goals as goal

pub returns : goal.returns
returns c = seat_cases
