use Rattle.run_examples.proofs.Replay.Lived.{life_cases}
use Rattle.run_examples.proofs.replays.life_examples.Goals as goal

pub returns : goal.returns
returns c = life_cases
