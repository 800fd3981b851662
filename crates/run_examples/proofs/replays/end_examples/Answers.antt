use Rattle.run_examples.proofs.Replay.Counted.{end_cases}
use Rattle.run_examples.proofs.replays.end_examples.Goals as goal

pub returns : goal.returns
returns c = end_cases
