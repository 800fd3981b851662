use Rattle.protect_sync.proofs.Begun.{begun_volumes_have_calls}
use Rattle.protect_sync.proofs.laws.begun_volumes_have_calls.Goals as goal

pub returns : goal.returns
returns c = begun_volumes_have_calls
