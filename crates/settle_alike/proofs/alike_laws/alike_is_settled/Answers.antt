use Rattle.settle_alike.proofs.Alike.Dues.{alike_is_settled}
use Rattle.settle_alike.proofs.alike_laws.alike_is_settled.Goals as goal

-- one is settled where the other is
pub returns : goal.returns
returns c = alike_is_settled
