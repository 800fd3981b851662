use Rattle.run_examples.proofs.Replay.Acted.{actor_cases}
use Rattle.run_examples.proofs.replays.actor_examples.Goals as goal

pub returns : goal.returns
returns c = actor_cases
