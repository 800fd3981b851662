use Rattle.extended_laws.proofs.extended_runs_keep.Goals as goal
use Rattle.extended_laws.proofs.Keeping.{extended_runs_keep}

pub returns : goal.returns
returns c = extended_runs_keep
