use Rattle.settle_write_counts.proofs.Ops.Bounds.{ops_writes_are_bounded}
use Rattle.settle_write_counts.proofs.ops_laws.ops_writes_are_bounded.Goals as goal

pub returns : goal.returns
returns c = ops_writes_are_bounded
