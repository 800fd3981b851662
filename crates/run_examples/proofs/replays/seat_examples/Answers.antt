use Rattle.run_examples.proofs.Replay.Counted.{seat_cases}
use Rattle.run_examples.proofs.replays.seat_examples.Goals as goal

pub returns : goal.returns
returns c = seat_cases
