use Rattle.volume_sync.specs.Conditions.{conditions_on}
use Rattle.volume_sync.proofs.decision.conditions_on.Goals as goal

pub returns : goal.returns
unfolding conditions_on
returns c = cc
