use Rattle.settle_due.proofs.Scheduling.Seeing.{schedulers_see_all}
use Rattle.settle_due.proofs.scheduling_laws.schedulers_see_all.Goals as goal

-- it has the rows of the store
pub returns : goal.returns
returns c = schedulers_see_all
