use Rattle.replay_laws.proofs.Settles.Settling.{last_drains_settle}
use Rattle.replay_laws.proofs.settles_laws.last_drains_settle.Goals as goal

pub returns : goal.returns
returns c = last_drains_settle
