use Rattle.replay_laws.proofs.Printable.Threads.{thread_texts_have_one}
use Rattle.replay_laws.proofs.printable_laws.thread_texts_have_one.Goals as goal

pub returns : goal.returns
returns c = thread_texts_have_one
