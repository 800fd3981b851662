use Rattle.run_examples.proofs.Replay.Turned.{fewer_cases}
use Rattle.run_examples.proofs.replays.fewer_examples.Goals as goal

pub returns : goal.returns
returns c = fewer_cases
