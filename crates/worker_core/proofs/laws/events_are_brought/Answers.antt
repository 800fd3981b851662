use Rattle.worker_core.proofs.PassRules.{events_are_brought}
use Rattle.worker_core.proofs.laws.events_are_brought.Goals as goal

pub returns : goal.returns
returns c = events_are_brought
