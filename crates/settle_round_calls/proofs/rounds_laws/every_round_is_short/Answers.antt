use Rattle.settle_round_calls.proofs.Rounds.Sum.{every_round_is_short}
use Rattle.settle_round_calls.proofs.rounds_laws.every_round_is_short.Goals as goal

-- the sum of its slots is no more than the stated number
pub returns : goal.returns
returns c = every_round_is_short
