use Rattle.delayed_binding.proofs.Allowed.{writes_are_apart}
use Rattle.delayed_binding.proofs.laws.writes_are_apart.Goals as goal

pub returns : goal.returns
returns c = writes_are_apart
