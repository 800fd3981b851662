use Rattle.settle_writes.proofs.Writes.Volumes.{phase_lasts}
use Rattle.settle_writes.proofs.writes_laws.phase_lasts.Goals as goal

-- a volume's phase, over another one
pub returns : goal.returns
returns c = phase_lasts
