use Rattle.reclaim_ops.proofs.EraseBegun.{begun_erasures_have_calls}
use Rattle.reclaim_ops.proofs.laws.begun_erasures_have_calls.Goals as goal

pub returns : goal.returns
returns c = begun_erasures_have_calls
