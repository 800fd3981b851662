use Rattle.history_laws.proofs.Runs.Runs.{run_texts_have_one}
use Rattle.history_laws.proofs.runs_laws.run_texts_have_one.Goals as goal

pub returns : goal.returns
returns c = run_texts_have_one
