use Rattle.script_runs.proofs.Readable.{read_is_readable}
use Rattle.binder_console.proofs.replaying.read_readable.Goals as goal

-- src/replaying.rt:23:1
pub returns-clause-readable : goal.returns-clause-readable
returns-clause-readable c = read_is_readable c.args.input.now c.in_ok-script.script c.in_ok-script.ensures.gives
