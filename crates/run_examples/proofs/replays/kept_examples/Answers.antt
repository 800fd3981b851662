use Rattle.run_examples.proofs.Replay.Kept.{kept_cases}
use Rattle.run_examples.proofs.replays.kept_examples.Goals as goal

pub returns : goal.returns
returns c = kept_cases
