use Rattle.model_laws.proofs.Computed.{first_run}
use Rattle.model_laws.proofs.first_run.Goals as goal

pub returns : goal.returns
returns c = first_run
