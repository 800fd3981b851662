use Rattle.run_examples.proofs.Replay.Undone.{next_life_cases}
use Rattle.run_examples.proofs.replays.next_life_examples.Goals as goal

pub returns : goal.returns
returns c = next_life_cases
