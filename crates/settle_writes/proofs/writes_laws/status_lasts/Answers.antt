use Rattle.settle_writes.proofs.Writes.Claims.{status_is_lasting}
use Rattle.settle_writes.proofs.writes_laws.status_lasts.Goals as goal

-- the fourth write of a binding
pub returns : goal.returns
returns c = status_is_lasting
