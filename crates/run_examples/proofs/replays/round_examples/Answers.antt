use Rattle.run_examples.proofs.Replay.Acted.{round_cases}
use Rattle.run_examples.proofs.replays.round_examples.Goals as goal

pub returns : goal.returns
returns c = round_cases
