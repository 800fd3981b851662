use Rattle.run_examples.proofs.Replay.Undone.{done_cases}
use Rattle.run_examples.proofs.replays.done_examples.Goals as goal

pub returns : goal.returns
returns c = done_cases
