use Rattle.delayed_binding.proofs.Dues.{chosen_nodes_are_due}
use Rattle.delayed_binding.proofs.laws.chosen_nodes_are_due.Goals as goal

pub returns : goal.returns
returns c = chosen_nodes_are_due
