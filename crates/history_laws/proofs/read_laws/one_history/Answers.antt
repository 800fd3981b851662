use Rattle.history_laws.proofs.Read.OneHistory.{one_history}
use Rattle.history_laws.proofs.read_laws.one_history.Goals as goal

pub returns : goal.returns
returns c = one_history
