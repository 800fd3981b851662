use Rattle.settling_examples.proofs.Costs.{slot_examples}
use Rattle.settling_examples.proofs.slot_examples.Goals as goal

pub returns : goal.returns
returns c = slot_examples
