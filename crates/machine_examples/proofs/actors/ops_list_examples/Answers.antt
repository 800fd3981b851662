use Rattle.machine_examples.proofs.Actor.OpsActing.{listings}
use Rattle.machine_examples.proofs.actors.ops_list_examples.Goals as goal

pub returns : goal.returns
returns c = listings
