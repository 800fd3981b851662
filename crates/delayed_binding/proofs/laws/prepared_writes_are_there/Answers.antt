use Rattle.delayed_binding.proofs.Allowed.{prepared_writes_are_there}
use Rattle.delayed_binding.proofs.laws.prepared_writes_are_there.Goals as goal

pub returns : goal.returns
returns c = prepared_writes_are_there
