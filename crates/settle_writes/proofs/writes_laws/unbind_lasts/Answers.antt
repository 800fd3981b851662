use Rattle.settle_writes.proofs.Writes.Volumes.{unbind_lasts}
use Rattle.settle_writes.proofs.writes_laws.unbind_lasts.Goals as goal

-- unbinding
pub returns : goal.returns
returns c = unbind_lasts
