use Rattle.settle_budget.proofs.Drains.Selections.{static_drains_settle}
use Rattle.settle_budget.proofs.drains_laws.static_drains_settle.Goals as goal

-- none is selected
pub returns : goal.returns
returns c = static_drains_settle
