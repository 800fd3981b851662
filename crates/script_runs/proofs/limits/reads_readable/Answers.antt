use Rattle.script_runs.proofs.Readable.{numbered_is_readable, read_is_readable}
use Rattle.script_runs.proofs.limits.reads_readable.Goals as goal

pub returns : goal.returns
returns c = record { script = read_is_readable; numbered = numbered_is_readable }
