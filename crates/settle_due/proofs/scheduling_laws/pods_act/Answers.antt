use Rattle.settle_due.proofs.Scheduling.Acts.{pods_act}
use Rattle.settle_due.proofs.scheduling_laws.pods_act.Goals as goal

-- the scheduler acts
pub returns : goal.returns
returns c = pods_act
