use Rattle.run_examples.proofs.Replay.Lived.{again_cases}
use Rattle.run_examples.proofs.replays.again_examples.Goals as goal

pub returns : goal.returns
returns c = again_cases
