use Rattle.machine_examples.proofs.Actor.Computed.{passes}
use Rattle.machine_examples.proofs.actors.pass_examples.Goals as goal

pub returns : goal.returns
returns c = passes
