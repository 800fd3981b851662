use Rattle.settle_alike.proofs.Near.Near.{near_assigns}
use Rattle.settle_alike.proofs.near_laws.near_assigns.Goals as goal

-- it is to be bound there
pub returns : goal.returns
returns c = near_assigns
