use Rattle.model_laws.proofs.Computed.{modes_before_size}
use Rattle.model_laws.proofs.modes_before_size.Goals as goal

pub returns : goal.returns
returns c = modes_before_size
