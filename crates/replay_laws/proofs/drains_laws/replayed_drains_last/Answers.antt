use Rattle.replay_laws.proofs.Drains.Moves.{replayed_drains_last}
use Rattle.replay_laws.proofs.drains_laws.replayed_drains_last.Goals as goal

pub returns : goal.returns
returns c = replayed_drains_last
