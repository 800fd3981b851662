use Rattle.machine_examples.proofs.Actor.OpsActing.{decisions}
use Rattle.machine_examples.proofs.actors.ops_decision_examples.Goals as goal

pub returns : goal.returns
returns c = decisions
