use Rattle.reclaim_ops.proofs.EraseBegun.{erase_decisions}
use Rattle.reclaim_ops.proofs.laws.erase_decisions_keep.Goals as goal

pub returns : goal.returns
returns c = erase_decisions
