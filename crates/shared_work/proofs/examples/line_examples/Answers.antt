use Rattle.shared_work.proofs.Computed.{lines}
use Rattle.shared_work.proofs.examples.line_examples.Goals as goal

pub returns : goal.returns
returns c = lines
