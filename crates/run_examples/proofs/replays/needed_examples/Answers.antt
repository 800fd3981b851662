use Rattle.run_examples.proofs.Replay.Undone.{needed_cases}
use Rattle.run_examples.proofs.replays.needed_examples.Goals as goal

pub returns : goal.returns
returns c = needed_cases
