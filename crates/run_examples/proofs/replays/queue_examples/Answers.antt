use Rattle.run_examples.proofs.Replay.Ran.{queue_cases}
use Rattle.run_examples.proofs.replays.queue_examples.Goals as goal

pub returns : goal.returns
returns c = queue_cases
