use Rattle.settling_examples.proofs.Objects.{object_examples}
use Rattle.settling_examples.proofs.object_examples.Goals as goal

pub returns : goal.returns
returns c = object_examples
