use Rattle.settle_writes.proofs.Writes.Claims.{claim_unguard_lasts}
use Rattle.settle_writes.proofs.writes_laws.claim_unguard_lasts.Goals as goal

-- a claim's finalizer, dropped
pub returns : goal.returns
returns c = claim_unguard_lasts
