use Rattle.run_examples.proofs.Replay.Undone.{stale_cases}
use Rattle.run_examples.proofs.replays.stale_examples.Goals as goal

pub returns : goal.returns
returns c = stale_cases
