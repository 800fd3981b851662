use Rattle.settle_budget.proofs.Drains.Fresh.{new_drains_settle}
use Rattle.settle_budget.proofs.drains_laws.new_drains_settle.Goals as goal

-- new ones may settle
pub returns : goal.returns
returns c = new_drains_settle
