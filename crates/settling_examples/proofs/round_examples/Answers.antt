use Rattle.settling_examples.proofs.Rounds.{round_examples}
use Rattle.settling_examples.proofs.round_examples.Goals as goal

pub returns : goal.returns
returns c = round_examples
