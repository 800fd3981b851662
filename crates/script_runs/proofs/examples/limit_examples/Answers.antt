use Rattle.script_runs.proofs.Computed.{limits}
use Rattle.script_runs.proofs.examples.limit_examples.Goals as goal

pub returns : goal.returns
returns c = limits
