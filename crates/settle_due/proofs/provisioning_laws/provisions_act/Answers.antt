use Rattle.settle_due.proofs.Provisioning.Provisions.{provisions_act}
use Rattle.settle_due.proofs.provisioning_laws.provisions_act.Goals as goal

-- a volume is provisioned
pub returns : goal.returns
returns c = provisions_act
