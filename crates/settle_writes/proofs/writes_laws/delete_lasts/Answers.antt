use Rattle.settle_writes.proofs.Writes.Volumes.{delete_lasts}
use Rattle.settle_writes.proofs.writes_laws.delete_lasts.Goals as goal

-- the deletion of a volume that stays
pub returns : goal.returns
returns c = delete_lasts
