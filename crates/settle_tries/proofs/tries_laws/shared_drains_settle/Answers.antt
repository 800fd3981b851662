use Rattle.settle_tries.proofs.Few.Trying.{shared_drains_settle}
use Rattle.settle_tries.proofs.tries_laws.shared_drains_settle.Goals as goal

-- drains end settled
pub returns : goal.returns
returns c = shared_drains_settle
