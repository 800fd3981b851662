use Rattle.settle_progress.proofs.Drains.Drained.{passed_rounds_last}
use Rattle.settle_progress.proofs.drains_laws.passed_rounds_last.Goals as goal

-- where nothing is held back, all calls pass
pub returns : goal.returns
returns c = passed_rounds_last
