use Rattle.settling_examples.proofs.Lasting.{alike_examples}
use Rattle.settling_examples.proofs.alike_examples.Goals as goal

-- what is alike
pub returns : goal.returns
returns c = alike_examples
