use Rattle.settle_write_counts.proofs.Agents.Slots.{agents_write_little}
use Rattle.settle_write_counts.proofs.agents_laws.agents_write_little.Goals as goal

pub returns : goal.returns
returns c = agents_write_little
