use Rattle.run_examples.proofs.Replay.Replayed.{user_cases}
use Rattle.run_examples.proofs.replays.user_examples.Goals as goal

pub returns : goal.returns
returns c = user_cases
