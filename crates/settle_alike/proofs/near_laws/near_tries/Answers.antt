use Rattle.settle_alike.proofs.Near.Near.{near_tries}
use Rattle.settle_alike.proofs.near_laws.near_tries.Goals as goal

-- as many nodes are left to be tried
pub returns : goal.returns
returns c = near_tries
