use Rattle.delayed_binding.proofs.Allowed.{chosen_writes_are_allowed}
use Rattle.delayed_binding.proofs.laws.chosen_writes_are_allowed.Goals as goal

pub returns : goal.returns
returns c = chosen_writes_are_allowed
