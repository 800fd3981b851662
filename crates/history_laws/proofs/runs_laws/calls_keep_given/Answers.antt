use Rattle.history_laws.proofs.Runs.Effects.{calls_keep_given}
use Rattle.history_laws.proofs.runs_laws.calls_keep_given.Goals as goal

pub returns : goal.returns
returns c = calls_keep_given
