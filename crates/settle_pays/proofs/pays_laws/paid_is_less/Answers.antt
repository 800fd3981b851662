use Rattle.settle_pays.proofs.Pays.Entries.{paid_is_less}
use Rattle.settle_pays.proofs.pays_laws.paid_is_less.Goals as goal

-- entries that pay lower what is left to do
pub returns : goal.returns
returns c = paid_is_less
