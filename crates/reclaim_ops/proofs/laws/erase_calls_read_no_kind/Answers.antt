use Rattle.reclaim_ops.proofs.EraseAllowed.{erase_calls_read_no_kind}
use Rattle.reclaim_ops.proofs.laws.erase_calls_read_no_kind.Goals as goal

pub returns : goal.returns
returns c = erase_calls_read_no_kind
