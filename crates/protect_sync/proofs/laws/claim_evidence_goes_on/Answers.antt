use Rattle.protect_sync.proofs.Moves.{claim_goes_on}
use Rattle.protect_sync.proofs.laws.claim_evidence_goes_on.Goals as goal

pub returns : goal.returns
returns c = claim_goes_on
