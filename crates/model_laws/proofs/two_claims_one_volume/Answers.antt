use Rattle.model_laws.proofs.Computed.{two_claims_one_volume}
use Rattle.model_laws.proofs.two_claims_one_volume.Goals as goal

pub returns : goal.returns
returns c = two_claims_one_volume
