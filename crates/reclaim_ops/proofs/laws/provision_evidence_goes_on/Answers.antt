use Rattle.reclaim_ops.proofs.ProvisionMoves.{provision_goes_on}
use Rattle.reclaim_ops.proofs.laws.provision_evidence_goes_on.Goals as goal

pub returns : goal.returns
returns c = provision_goes_on
