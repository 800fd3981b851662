use Rattle.settle_alike.proofs.Near.Near.{near_immediates}
use Rattle.settle_alike.proofs.near_laws.near_immediates.Goals as goal

-- nor does the node of the claim itself matter
pub returns : goal.returns
returns c = near_immediates
