use Rattle.settle_due.proofs.Upkeep.Reclaims.{reclaims_act}
use Rattle.settle_due.proofs.upkeep_laws.reclaims_act.Goals as goal

-- the reclaimer acts
pub returns : goal.returns
returns c = reclaims_act
