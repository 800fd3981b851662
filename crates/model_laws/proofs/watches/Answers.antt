use Rattle.model_laws.proofs.Computed.{watches}
use Rattle.model_laws.proofs.watches.Goals as goal

pub returns : goal.returns
returns c = watches
