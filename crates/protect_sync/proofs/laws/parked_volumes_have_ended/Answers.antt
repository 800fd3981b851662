use Rattle.protect_sync.proofs.Begun.{parked_volumes_have_ended}
use Rattle.protect_sync.proofs.laws.parked_volumes_have_ended.Goals as goal

pub returns : goal.returns
returns c = parked_volumes_have_ended
