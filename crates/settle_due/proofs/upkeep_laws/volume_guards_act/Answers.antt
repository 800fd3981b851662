use Rattle.settle_due.proofs.Upkeep.Guards.{volume_guards_act}
use Rattle.settle_due.proofs.upkeep_laws.volume_guards_act.Goals as goal

-- volume protection acts
pub returns : goal.returns
returns c = volume_guards_act
