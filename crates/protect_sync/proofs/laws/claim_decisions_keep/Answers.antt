use Rattle.protect_sync.proofs.Begun.{claim_decisions}
use Rattle.protect_sync.proofs.laws.claim_decisions_keep.Goals as goal

pub returns : goal.returns
returns c = claim_decisions
