use Rattle.protect_sync.proofs.Moves.{volume_goes_on}
use Rattle.protect_sync.proofs.laws.volume_evidence_goes_on.Goals as goal

pub returns : goal.returns
returns c = volume_goes_on
