use Rattle.settle_budget.proofs.Drains.Measured.{measured_drains_settle}
use Rattle.settle_budget.proofs.drains_laws.measured_drains_settle.Goals as goal

-- few rounds
pub returns : goal.returns
returns c = measured_drains_settle
