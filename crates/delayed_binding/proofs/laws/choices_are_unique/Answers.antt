use Rattle.delayed_binding.proofs.Unique.{choices_are_unique}
use Rattle.delayed_binding.proofs.laws.choices_are_unique.Goals as goal

pub returns : goal.returns
returns c = choices_are_unique
