use Rattle.replay_laws.proofs.Drains.Asking.{replayed_pods_are_on_named}
use Rattle.replay_laws.proofs.drains_laws.replayed_pods_are_on_named.Goals as goal

pub returns : goal.returns
returns c = replayed_pods_are_on_named
