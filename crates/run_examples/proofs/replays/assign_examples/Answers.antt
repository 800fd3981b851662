use Rattle.run_examples.proofs.Replay.Assigned.{assign_cases}
use Rattle.run_examples.proofs.replays.assign_examples.Goals as goal

pub returns : goal.returns
returns c = assign_cases
