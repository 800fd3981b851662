use Rattle.settle_progress.proofs.Drains.Fresh.{fresh_drainers_serve}
use Rattle.settle_progress.proofs.drains_laws.fresh_drainers_serve.Goals as goal

-- what was told nothing took no epoch
pub returns : goal.returns
returns c = fresh_drainers_serve
