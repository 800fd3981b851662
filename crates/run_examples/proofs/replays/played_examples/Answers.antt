use Rattle.run_examples.proofs.Replay.Lived.{played_cases}
use Rattle.run_examples.proofs.replays.played_examples.Goals as goal

pub returns : goal.returns
returns c = played_cases
