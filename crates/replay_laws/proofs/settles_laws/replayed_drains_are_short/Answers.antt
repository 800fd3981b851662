use Rattle.replay_laws.proofs.Settles.Drains.{replayed_drains_are_short}
use Rattle.replay_laws.proofs.settles_laws.replayed_drains_are_short.Goals as goal

pub returns : goal.returns
returns c = replayed_drains_are_short
