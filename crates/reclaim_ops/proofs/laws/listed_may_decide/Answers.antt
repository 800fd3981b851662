use Rattle.reclaim_ops.proofs.Listings.{listed_may_decide}
use Rattle.reclaim_ops.proofs.laws.listed_may_decide.Goals as goal

pub returns : goal.returns
returns c = listed_may_decide
