use Rattle.settling_examples.proofs.Lasting.{lasting_examples}
use Rattle.settling_examples.proofs.lasting_examples.Goals as goal

-- what lasts
pub returns : goal.returns
returns c = lasting_examples
