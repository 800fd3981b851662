use Rattle.volume_sync.proofs.Agrees.{decision_due}
use Rattle.volume_sync.proofs.laws.decides_due.Goals as goal

pub returns : goal.returns
returns c = decision_due
