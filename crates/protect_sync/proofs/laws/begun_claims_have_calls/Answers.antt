use Rattle.protect_sync.proofs.Begun.{begun_claims_have_calls}
use Rattle.protect_sync.proofs.laws.begun_claims_have_calls.Goals as goal

pub returns : goal.returns
returns c = begun_claims_have_calls
