use Rattle.settle_due.proofs.Upkeep.Claims.{claim_guards_act}
use Rattle.settle_due.proofs.upkeep_laws.claim_guards_act.Goals as goal

-- claim protection acts
pub returns : goal.returns
returns c = claim_guards_act
