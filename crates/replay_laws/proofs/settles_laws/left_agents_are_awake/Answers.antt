use Rattle.replay_laws.proofs.Settles.Awake.{left_agents_are_awake}
use Rattle.replay_laws.proofs.settles_laws.left_agents_are_awake.Goals as goal

pub returns : goal.returns
returns c = left_agents_are_awake
