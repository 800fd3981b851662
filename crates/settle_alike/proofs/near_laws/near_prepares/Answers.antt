use Rattle.settle_alike.proofs.Near.Near.{near_prepares}
use Rattle.settle_alike.proofs.near_laws.near_prepares.Goals as goal

-- it can be prepared there
pub returns : goal.returns
returns c = near_prepares
