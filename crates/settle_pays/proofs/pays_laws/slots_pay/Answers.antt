use Rattle.settle_pays.proofs.Pays.Slots.{slots_pay}
use Rattle.settle_pays.proofs.pays_laws.slots_pay.Goals as goal

-- an actor whose decisions pay pays with each of its calls
pub returns : goal.returns
returns c = slots_pay
