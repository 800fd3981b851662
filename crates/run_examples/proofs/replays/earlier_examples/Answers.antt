use Rattle.run_examples.proofs.Replay.Lived.{earlier_cases}
use Rattle.run_examples.proofs.replays.earlier_examples.Goals as goal

pub returns : goal.returns
returns c = earlier_cases
