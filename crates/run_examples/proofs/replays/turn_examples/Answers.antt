use Rattle.run_examples.proofs.Replay.Replayed.{turn_cases}
use Rattle.run_examples.proofs.replays.turn_examples.Goals as goal

pub returns : goal.returns
returns c = turn_cases
