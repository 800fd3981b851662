use Rattle.reclaim_ops.proofs.Dues.{begins_what_is_due}
use Rattle.reclaim_ops.proofs.laws.begins_what_is_due.Goals as goal

pub returns : goal.returns
returns c = begins_what_is_due
