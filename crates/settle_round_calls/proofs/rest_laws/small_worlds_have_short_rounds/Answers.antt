use Rattle.settle_round_calls.proofs.Rest.Short.{small_worlds_have_short_rounds}
use Rattle.settle_round_calls.proofs.rest_laws.small_worlds_have_short_rounds.Goals as goal

-- what a scheduler may write is among what is counted
pub returns : goal.returns
returns c = small_worlds_have_short_rounds
