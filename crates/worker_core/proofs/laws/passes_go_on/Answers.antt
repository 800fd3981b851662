use Rattle.worker_core.proofs.PassRules.{passes_go_on}
use Rattle.worker_core.proofs.laws.passes_go_on.Goals as goal

pub returns : goal.returns
returns c = passes_go_on
