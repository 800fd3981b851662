use Rattle.settle_round_calls.proofs.Rounds.Drains.{every_drained_round_is_short}
use Rattle.settle_round_calls.proofs.rounds_laws.every_drained_round_is_short.Goals as goal

-- each of its rounds is a round
pub returns : goal.returns
returns c = every_drained_round_is_short
