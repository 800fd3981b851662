use Rattle.settle_due.proofs.Binding.Best.{best_is_own}
use Rattle.settle_due.proofs.binding_laws.best_is_own.Goals as goal

-- the best one is for the claim
pub returns : goal.returns
returns c = best_is_own
