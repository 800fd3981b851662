use Rattle.run_examples.proofs.Replay.Drained.{spent_cases}
use Rattle.run_examples.proofs.replays.spent_examples.Goals as goal

pub returns : goal.returns
returns c = spent_cases
