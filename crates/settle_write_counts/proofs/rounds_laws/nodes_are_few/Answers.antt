use Rattle.settle_write_counts.proofs.Rounds.Ordered.{nodes_are_few}
use Rattle.settle_write_counts.proofs.rounds_laws.nodes_are_few.Goals as goal

-- no claim has two
pub returns : goal.returns
returns c = nodes_are_few
