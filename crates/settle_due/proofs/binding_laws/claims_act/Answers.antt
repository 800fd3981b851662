use Rattle.settle_due.proofs.Binding.Claims.{claims_act}
use Rattle.settle_due.proofs.binding_laws.claims_act.Goals as goal

-- the binder acts on a claim
pub returns : goal.returns
returns c = claims_act
