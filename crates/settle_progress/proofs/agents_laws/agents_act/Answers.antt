use Rattle.settle_progress.proofs.Agents.Mounting.{agents_act}
use Rattle.settle_progress.proofs.agents_laws.agents_act.Goals as goal

-- the agent acts
pub returns : goal.returns
returns c = agents_act
