use Rattle.settle_due.proofs.Begun.Ops.{ops_last}
use Rattle.settle_due.proofs.begun_laws.ops_last.Goals as goal

-- what the provisioner and reclaimer begins lasts, where it is due
pub returns : goal.returns
returns c = ops_last
