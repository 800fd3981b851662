use Rattle.model_laws.proofs.Computed.{tie_by_name}
use Rattle.model_laws.proofs.tie_by_name.Goals as goal

pub returns : goal.returns
returns c = tie_by_name
