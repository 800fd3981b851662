use Rattle.binder_machines.proofs.Begun.{keep}
use Rattle.binder_machines.proofs.laws.decisions_keep.Goals as goal

pub returns : goal.returns
returns c = keep
