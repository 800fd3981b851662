use Rattle.binder_machines.proofs.Allowed.{allowed}
use Rattle.binder_machines.proofs.laws.calls_are_allowed.Goals as goal

pub returns : goal.returns
returns c = allowed
