use Rattle.replay_laws.proofs.Printable.Threads.{threads_give}
use Rattle.replay_laws.proofs.printable_laws.threads_give.Goals as goal

pub returns : goal.returns
returns c = threads_give
