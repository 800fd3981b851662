use Rattle.settle_writes.proofs.Writes.Claims.{completion_lasts}
use Rattle.settle_writes.proofs.writes_laws.completion_lasts.Goals as goal

-- the third write of a binding
pub returns : goal.returns
returns c = completion_lasts
