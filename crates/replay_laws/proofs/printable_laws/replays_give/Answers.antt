use Rattle.replay_laws.proofs.Printable.Replays.{replays_give}
use Rattle.replay_laws.proofs.printable_laws.replays_give.Goals as goal

pub returns : goal.returns
returns c = replays_give
