use Rattle.settle_writes.proofs.Done.Doing.{other_writes_last}
use Rattle.settle_writes.proofs.done_laws.other_writes_last.Goals as goal

-- machine by machine
pub returns : goal.returns
returns c = other_writes_last
