use Rattle.replay_laws.proofs.Settles.Settling.{threaded_drains_settle}
use Rattle.replay_laws.proofs.settles_laws.threaded_drains_settle.Goals as goal

pub returns : goal.returns
returns c = threaded_drains_settle
