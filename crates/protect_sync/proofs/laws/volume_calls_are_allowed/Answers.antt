use Rattle.protect_sync.proofs.Allowed.{volume_allowed}
use Rattle.protect_sync.proofs.laws.volume_calls_are_allowed.Goals as goal

pub returns : goal.returns
returns c = volume_allowed
