use Rattle.settle_measure.proofs.Binding.Binding.{prepare_pays}
use Rattle.settle_measure.proofs.binding_laws.prepare_pays.Goals as goal

-- the scheduler's first write pays
pub returns : goal.returns
returns c = prepare_pays
