use Rattle.settle_writes.proofs.Writes.Volumes.{volume_unguard_lasts}
use Rattle.settle_writes.proofs.writes_laws.volume_unguard_lasts.Goals as goal

-- a volume's finalizer, dropped
pub returns : goal.returns
returns c = volume_unguard_lasts
