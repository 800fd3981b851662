use Rattle.settle_alike.proofs.Near.Near.{near_provisions}
use Rattle.settle_alike.proofs.near_laws.near_provisions.Goals as goal

-- the same is to be provisioned
pub returns : goal.returns
returns c = near_provisions
