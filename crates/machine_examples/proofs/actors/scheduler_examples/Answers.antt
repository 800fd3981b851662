use Rattle.machine_examples.proofs.Actor.Computed.{schedulers}
use Rattle.machine_examples.proofs.actors.scheduler_examples.Goals as goal

pub returns : goal.returns
returns c = schedulers
