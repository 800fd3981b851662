use Rattle.run_examples.proofs.Replay.Lost.{one_loss_cases}
use Rattle.run_examples.proofs.replays.one_loss_examples.Goals as goal

pub returns : goal.returns
returns c = one_loss_cases
