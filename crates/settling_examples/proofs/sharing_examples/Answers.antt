use Rattle.settling_examples.proofs.Ending.{sharing_examples}
use Rattle.settling_examples.proofs.sharing_examples.Goals as goal

pub returns : goal.returns
returns c = sharing_examples
