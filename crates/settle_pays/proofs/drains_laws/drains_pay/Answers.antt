use Rattle.settle_pays.proofs.Drains.Drains.{drains_pay}
use Rattle.settle_pays.proofs.drains_laws.drains_pay.Goals as goal

-- so does a drain
pub returns : goal.returns
returns c = drains_pay
