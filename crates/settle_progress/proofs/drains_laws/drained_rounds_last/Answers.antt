use Rattle.settle_progress.proofs.Drains.Drained.{drained_rounds_last}
use Rattle.settle_progress.proofs.drains_laws.drained_rounds_last.Goals as goal

-- round by round
pub returns : goal.returns
returns c = drained_rounds_last
