use Rattle.delayed_binding.proofs.Allowed.{prepared_writes_are_allowed}
use Rattle.delayed_binding.proofs.laws.prepared_writes_are_allowed.Goals as goal

pub returns : goal.returns
returns c = prepared_writes_are_allowed
