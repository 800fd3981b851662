use Rattle.settle_writes.proofs.Writes.Claims.{node_lasts}
use Rattle.settle_writes.proofs.writes_laws.node_lasts.Goals as goal

-- a node that is selected for a claim, another than before
pub returns : goal.returns
returns c = node_lasts
