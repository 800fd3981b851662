use Rattle.settle_pays.proofs.Drains.Rounds.{rounds_pay}
use Rattle.settle_pays.proofs.drains_laws.rounds_pay.Goals as goal

-- a round pays off
pub returns : goal.returns
returns c = rounds_pay
