use Rattle.settle_pays.proofs.Drains.Actors.{actors_pay}
use Rattle.settle_pays.proofs.drains_laws.actors_pay.Goals as goal

-- each actor that is built pays
pub returns : goal.returns
returns c = actors_pay
