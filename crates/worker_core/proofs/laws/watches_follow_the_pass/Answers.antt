use Rattle.worker_core.proofs.PassRules.{watches_follow}
use Rattle.worker_core.proofs.laws.watches_follow_the_pass.Goals as goal

pub returns : goal.returns
returns c = watches_follow
