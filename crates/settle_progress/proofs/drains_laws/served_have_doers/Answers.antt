use Rattle.settle_progress.proofs.Drains.Drained.{served_have_doers}
use Rattle.settle_progress.proofs.drains_laws.served_have_doers.Goals as goal

-- a pod that a node runs is its agent's, and all else is a controller's
pub returns : goal.returns
returns c = served_have_doers
