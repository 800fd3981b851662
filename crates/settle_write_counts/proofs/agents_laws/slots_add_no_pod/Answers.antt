use Rattle.settle_write_counts.proofs.Agents.Slots.{slots_add_no_pod}
use Rattle.settle_write_counts.proofs.agents_laws.slots_add_no_pod.Goals as goal

pub returns : goal.returns
returns c = slots_add_no_pod
