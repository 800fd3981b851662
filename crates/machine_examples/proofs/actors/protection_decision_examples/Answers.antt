use Rattle.machine_examples.proofs.Actor.Protected.{decisions}
use Rattle.machine_examples.proofs.actors.protection_decision_examples.Goals as goal

pub returns : goal.returns
returns c = decisions
