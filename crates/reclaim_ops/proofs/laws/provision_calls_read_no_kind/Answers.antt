use Rattle.reclaim_ops.proofs.ProvisionAllowed.{provision_calls_read_no_kind}
use Rattle.reclaim_ops.proofs.laws.provision_calls_read_no_kind.Goals as goal

pub returns : goal.returns
returns c = provision_calls_read_no_kind
