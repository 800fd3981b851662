use Rattle.settle_writes.proofs.Writes.Claims.{claim_guard_lasts}
use Rattle.settle_writes.proofs.writes_laws.claim_guard_lasts.Goals as goal

-- a claim's finalizer, added
pub returns : goal.returns
returns c = claim_guard_lasts
