use Rattle.model_laws.proofs.Computed.{stale_epochs}
use Rattle.model_laws.proofs.stale_epochs.Goals as goal

pub returns : goal.returns
returns c = stale_epochs
