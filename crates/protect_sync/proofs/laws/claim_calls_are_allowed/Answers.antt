use Rattle.protect_sync.proofs.Allowed.{claim_allowed}
use Rattle.protect_sync.proofs.laws.claim_calls_are_allowed.Goals as goal

pub returns : goal.returns
returns c = claim_allowed
