use Rattle.std.proofs.Common.{sym}
use Rattle.worker_core.proofs.Resting.{rested}
use Rattle.worker_core.proofs.keys.first_for.Goals as goal

pub returns-then-rests : goal.returns-then-rests
returns-then-rests g c = rested _ _ _ _ c.if-rests.true c.rests.ensures c.args.role.now.node c.args.memory.now c.args.key.now (sym c.row.ensures.object)
