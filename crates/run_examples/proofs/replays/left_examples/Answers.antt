use Rattle.run_examples.proofs.Replay.Undone.{left_cases}
use Rattle.run_examples.proofs.replays.left_examples.Goals as goal

pub returns : goal.returns
returns c = left_cases
