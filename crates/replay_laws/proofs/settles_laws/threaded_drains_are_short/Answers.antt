use Rattle.replay_laws.proofs.Settles.Drains.{threaded_drains_are_short}
use Rattle.replay_laws.proofs.settles_laws.threaded_drains_are_short.Goals as goal

pub returns : goal.returns
returns c = threaded_drains_are_short
