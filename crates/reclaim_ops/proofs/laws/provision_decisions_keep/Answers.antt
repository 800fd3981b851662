use Rattle.reclaim_ops.proofs.ProvisionBegun.{provision_decisions}
use Rattle.reclaim_ops.proofs.laws.provision_decisions_keep.Goals as goal

pub returns : goal.returns
returns c = provision_decisions
