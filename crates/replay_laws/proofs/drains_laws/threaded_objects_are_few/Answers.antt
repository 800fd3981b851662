use Rattle.replay_laws.proofs.Drains.Objects.{threaded_objects_are_few}
use Rattle.replay_laws.proofs.drains_laws.threaded_objects_are_few.Goals as goal

pub returns : goal.returns
returns c = threaded_objects_are_few
