use Rattle.settle_writes.proofs.Writes.Claims.{clear_lasts}
use Rattle.settle_writes.proofs.writes_laws.clear_lasts.Goals as goal

-- a selected node that is cleared
pub returns : goal.returns
returns c = clear_lasts
