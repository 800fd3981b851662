use Rattle.worker_core.proofs.Watches.{watches_are_answered}
use Rattle.worker_core.proofs.laws.watches_are_answered.Goals as goal

pub returns : goal.returns
returns c = watches_are_answered
