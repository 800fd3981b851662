use Rattle.delayed_binding.proofs.Dues.{choices_are_due}
use Rattle.delayed_binding.proofs.laws.choices_are_due.Goals as goal

pub returns : goal.returns
returns c = choices_are_due
