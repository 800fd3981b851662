use Rattle.settle_due.proofs.Scheduling.Fewer.{one_node_less}
use Rattle.settle_due.proofs.scheduling_laws.one_node_less.Goals as goal

-- one node less
pub returns : goal.returns
returns c = one_node_less
