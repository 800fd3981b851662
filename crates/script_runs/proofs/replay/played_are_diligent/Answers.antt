use Rattle.script_runs.proofs.Ending.{played_are_diligent}
use Rattle.script_runs.proofs.replay.played_are_diligent.Goals as goal

pub returns : goal.returns
returns c = played_are_diligent
