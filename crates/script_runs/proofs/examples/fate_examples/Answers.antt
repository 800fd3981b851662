use Rattle.script_runs.proofs.Computed.{fates}
use Rattle.script_runs.proofs.examples.fate_examples.Goals as goal

pub returns : goal.returns
returns c = fates
