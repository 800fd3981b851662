use Rattle.worker_core.proofs.PassRules.{passes_begin}
use Rattle.worker_core.proofs.laws.passes_begin.Goals as goal

pub returns : goal.returns
returns c = passes_begin
