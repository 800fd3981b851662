use Rattle.protect_sync.proofs.Begun.{volume_decisions}
use Rattle.protect_sync.proofs.laws.volume_decisions_keep.Goals as goal

pub returns : goal.returns
returns c = volume_decisions
