use Rattle.settle_due.proofs.Upkeep.Volumes.{volumes_act}
use Rattle.settle_due.proofs.upkeep_laws.volumes_act.Goals as goal

-- the binder acts
pub returns : goal.returns
returns c = volumes_act
