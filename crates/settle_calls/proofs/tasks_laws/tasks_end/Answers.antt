use Rattle.settle_calls.proofs.Tasks.Tasks.{under_goes}
use Rattle.settle_calls.proofs.tasks_laws.tasks_end.Goals as goal

-- by the machine of the task
pub returns : goal.returns
returns c = under_goes
