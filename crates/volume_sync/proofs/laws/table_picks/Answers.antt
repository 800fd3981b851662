use Rattle.volume_sync.proofs.Says.{picks}
use Rattle.volume_sync.proofs.laws.table_picks.Goals as goal

pub returns : goal.returns
returns c = picks
