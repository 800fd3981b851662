use Rattle.settle_due.proofs.Provisioning.Provisions.{clears_act}
use Rattle.settle_due.proofs.provisioning_laws.clears_act.Goals as goal

-- the node of a claim is cleared
pub returns : goal.returns
returns c = clears_act
