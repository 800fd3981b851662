use Rattle.settle_alike.proofs.Near.Near.{near_searches}
use Rattle.settle_alike.proofs.near_laws.near_searches.Goals as goal

-- it is to be prepared there
pub returns : goal.returns
returns c = near_searches
