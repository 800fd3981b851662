use Rattle.run_examples.proofs.Replay.Reclaimed.{reclaim_cases}
use Rattle.run_examples.proofs.replays.reclaim_examples.Goals as goal

pub returns : goal.returns
returns c = reclaim_cases
