use Rattle.settle_alike.proofs.Alike.Calls.{entries_last_or_leave_alike}
use Rattle.settle_alike.proofs.alike_laws.entries_last_or_leave_alike.Goals as goal

-- among some entries one lasts, or the world at their end is like the one before them
pub returns : goal.returns
returns c = entries_last_or_leave_alike
