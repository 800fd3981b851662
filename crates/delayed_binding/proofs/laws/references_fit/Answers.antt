use Rattle.delayed_binding.proofs.Fitting.{references_fit}
use Rattle.delayed_binding.proofs.laws.references_fit.Goals as goal

pub returns : goal.returns
returns c = references_fit
