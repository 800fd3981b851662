use Rattle.run_examples.proofs.Replay.Drained.{drain_cases}
use Rattle.run_examples.proofs.replays.drain_examples.Goals as goal

pub returns : goal.returns
returns c = drain_cases
