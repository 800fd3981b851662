use Rattle.settle_budget.proofs.Nodes.Nodes.{pods_are_on_given_nodes}
use Rattle.settle_budget.proofs.nodes_laws.pods_are_on_given_nodes.Goals as goal

-- a pod is bound to a node that stands
pub returns : goal.returns
returns c = pods_are_on_given_nodes
