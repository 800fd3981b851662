use Rattle.settle_budget.proofs.Nodes.Nodes.{nodes_were_given}
use Rattle.settle_budget.proofs.nodes_laws.nodes_were_given.Goals as goal

-- a node comes by an import or a create
pub returns : goal.returns
returns c = nodes_were_given
