use Rattle.replay_laws.proofs.Drains.Working.{threaded_pods_are_on_named}
use Rattle.replay_laws.proofs.drains_laws.threaded_pods_are_on_named.Goals as goal

pub returns : goal.returns
returns c = threaded_pods_are_on_named
