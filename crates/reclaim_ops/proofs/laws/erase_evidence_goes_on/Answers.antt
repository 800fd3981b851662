use Rattle.reclaim_ops.proofs.EraseMoves.{erase_goes_on}
use Rattle.reclaim_ops.proofs.laws.erase_evidence_goes_on.Goals as goal

pub returns : goal.returns
returns c = erase_goes_on
