use Rattle.reclaim_ops.proofs.Listings.{decides_still}
use Rattle.reclaim_ops.proofs.laws.decides_still.Goals as goal

pub returns : goal.returns
returns c = decides_still
