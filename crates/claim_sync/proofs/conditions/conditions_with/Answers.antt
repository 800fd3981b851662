use Rattle.claim_sync.specs.Conditions.{conditions_on}
use Rattle.claim_sync.proofs.conditions.conditions_with.Goals as goal

pub returns : goal.returns
unfolding conditions_on
returns c = cc
