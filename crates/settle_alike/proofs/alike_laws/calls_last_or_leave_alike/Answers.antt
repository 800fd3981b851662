use Rattle.settle_alike.proofs.Alike.Calls.{calls_last_or_leave_alike}
use Rattle.settle_alike.proofs.alike_laws.calls_last_or_leave_alike.Goals as goal

-- a call lasts, or leaves the world alike
pub returns : goal.returns
returns c = calls_last_or_leave_alike
