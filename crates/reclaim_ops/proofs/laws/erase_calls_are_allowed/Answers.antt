use Rattle.reclaim_ops.proofs.EraseAllowed.{erase_allowed}
use Rattle.reclaim_ops.proofs.laws.erase_calls_are_allowed.Goals as goal

pub returns : goal.returns
returns c = erase_allowed
