use Rattle.settle_budget.proofs.Objects.Objects.{objects_are_few}
use Rattle.settle_budget.proofs.objects_laws.objects_are_few.Goals as goal

-- each stands at a key that was given, or at that of the volume of a claim whose UID was given
pub returns : goal.returns
returns c = objects_are_few
