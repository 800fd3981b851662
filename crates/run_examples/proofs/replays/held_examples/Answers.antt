use Rattle.run_examples.proofs.Replay.Ran.{held_cases}
use Rattle.run_examples.proofs.replays.held_examples.Goals as goal

pub returns : goal.returns
returns c = held_cases
