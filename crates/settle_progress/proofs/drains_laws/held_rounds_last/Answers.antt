use Rattle.settle_progress.proofs.Drains.Held.{held_rounds_last}
use Rattle.settle_progress.proofs.drains_laws.held_rounds_last.Goals as goal

-- what is due begins no Mount but that of the pod
pub returns : goal.returns
returns c = held_rounds_last
