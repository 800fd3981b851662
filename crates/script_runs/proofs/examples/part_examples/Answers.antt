use Rattle.script_runs.proofs.Computed.{parts}
use Rattle.script_runs.proofs.examples.part_examples.Goals as goal

pub returns : goal.returns
returns c = parts
