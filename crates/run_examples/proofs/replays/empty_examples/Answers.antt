use Rattle.run_examples.proofs.Replay.Replayed.{empty_cases}
use Rattle.run_examples.proofs.replays.empty_examples.Goals as goal

pub returns : goal.returns
returns c = empty_cases
