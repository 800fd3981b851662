use Rattle.run_examples.proofs.Replay.Counted.{call_cases}
use Rattle.run_examples.proofs.replays.call_examples.Goals as goal

pub returns : goal.returns
returns c = call_cases
