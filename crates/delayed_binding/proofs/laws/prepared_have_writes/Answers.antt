use Rattle.delayed_binding.proofs.Allowed.{prepared_have_writes}
use Rattle.delayed_binding.proofs.laws.prepared_have_writes.Goals as goal

pub returns : goal.returns
returns c = prepared_have_writes
