use Rattle.settle_writes.proofs.Writes.Volumes.{reference_lasts}
use Rattle.settle_writes.proofs.writes_laws.reference_lasts.Goals as goal

-- the first write of a binding
pub returns : goal.returns
returns c = reference_lasts
