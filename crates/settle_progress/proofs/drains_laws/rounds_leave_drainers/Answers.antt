use Rattle.settle_progress.proofs.Drains.Leaving.{rounds_leave_drainers}
use Rattle.settle_progress.proofs.drains_laws.rounds_leave_drainers.Goals as goal

-- a whole round leaves its drainers so that the next may begin
pub returns : goal.returns
returns c = rounds_leave_drainers
