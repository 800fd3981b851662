use Rattle.binder_machines.proofs.Moves.{keeps_on}
use Rattle.binder_machines.proofs.laws.evidence_goes_on.Goals as goal

pub returns : goal.returns
returns c = keeps_on
