use Rattle.reclaim_ops.proofs.ProvisionAllowed.{provision_allowed}
use Rattle.reclaim_ops.proofs.laws.provision_calls_are_allowed.Goals as goal

pub returns : goal.returns
returns c = provision_allowed
