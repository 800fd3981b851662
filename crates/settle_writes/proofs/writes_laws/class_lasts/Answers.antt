use Rattle.settle_writes.proofs.Writes.Claims.{class_lasts}
use Rattle.settle_writes.proofs.writes_laws.class_lasts.Goals as goal

-- the class of a claim that lacks one
pub returns : goal.returns
returns c = class_lasts
