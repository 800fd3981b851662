use Rattle.replay_laws.proofs.Drains.Objects.{replayed_objects_are_few}
use Rattle.replay_laws.proofs.drains_laws.replayed_objects_are_few.Goals as goal

pub returns : goal.returns
returns c = replayed_objects_are_few
