use Rattle.settle_alike.proofs.Alike.Dues.{alike_is_due}
use Rattle.settle_alike.proofs.alike_laws.alike_is_due.Goals as goal

-- the same is due in worlds that are alike
pub returns : goal.returns
returns c = alike_is_due
