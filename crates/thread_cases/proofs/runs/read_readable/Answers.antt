use Rattle.script_runs.proofs.Readable.{read_is_readable}
use Rattle.thread_cases.proofs.runs.read_readable.Goals as goal

pub returns : goal.returns
returns c = read_is_readable c.args.text.now c.in_ok-script.script c.in_ok-script.ensures.gives
