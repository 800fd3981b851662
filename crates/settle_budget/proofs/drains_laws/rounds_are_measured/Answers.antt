use Rattle.settle_budget.proofs.Drains.Measured.{rounds_are_measured}
use Rattle.settle_budget.proofs.drains_laws.rounds_are_measured.Goals as goal

-- round by round
pub returns : goal.returns
returns c = rounds_are_measured
