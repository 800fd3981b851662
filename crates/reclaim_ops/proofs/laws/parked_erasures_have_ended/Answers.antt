use Rattle.reclaim_ops.proofs.EraseBegun.{parked_erasures_have_ended}
use Rattle.reclaim_ops.proofs.laws.parked_erasures_have_ended.Goals as goal

pub returns : goal.returns
returns c = parked_erasures_have_ended
