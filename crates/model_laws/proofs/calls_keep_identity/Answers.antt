use Rattle.model_laws.proofs.Kept.{calls_keep_identity}
use Rattle.model_laws.proofs.calls_keep_identity.Goals as goal

pub returns : goal.returns
returns c = calls_keep_identity
