use Rattle.machine_examples.proofs.Actor.Scheduling.{decisions}
use Rattle.machine_examples.proofs.actors.scheduler_decision_examples.Goals as goal

pub returns : goal.returns
returns c = decisions
