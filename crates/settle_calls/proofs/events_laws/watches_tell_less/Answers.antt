use Rattle.settle_calls.proofs.Events.Events.{told_so}
use Rattle.settle_calls.proofs.events_laws.watches_tell_less.Goals as goal

-- the log is in the order of versions
pub returns : goal.returns
returns c = told_so
