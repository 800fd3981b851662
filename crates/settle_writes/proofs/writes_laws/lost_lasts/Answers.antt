use Rattle.settle_writes.proofs.Writes.Claims.{lost_lasts}
use Rattle.settle_writes.proofs.writes_laws.lost_lasts.Goals as goal

-- phase Lost, over another one
pub returns : goal.returns
returns c = lost_lasts
