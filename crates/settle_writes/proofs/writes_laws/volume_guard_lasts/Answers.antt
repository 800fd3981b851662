use Rattle.settle_writes.proofs.Writes.Volumes.{volume_guard_lasts}
use Rattle.settle_writes.proofs.writes_laws.volume_guard_lasts.Goals as goal

-- a volume's finalizer, added
pub returns : goal.returns
returns c = volume_guard_lasts
