use Rattle.replay_laws.proofs.Drains.Threaded.{threaded_drains_last}
use Rattle.replay_laws.proofs.drains_laws.threaded_drains_last.Goals as goal

pub returns : goal.returns
returns c = threaded_drains_last
