use Rattle.run_examples.proofs.Threads.Orders.{order_cases}
use Rattle.run_examples.proofs.on_threads.works.order_examples.Goals as goal

pub returns : goal.returns
returns c = order_cases
