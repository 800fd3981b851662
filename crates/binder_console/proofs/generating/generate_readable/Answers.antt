use Rattle.binder_console.proofs.Generated.{generated_is_readable}
use Rattle.binder_console.proofs.generating.generate_readable.Goals as goal

-- src/generating.rt:19:1
pub returns-clause-readable : goal.returns-clause-readable
returns-clause-readable c = generated_is_readable c.args.seed c.in_ok-script.script c.in_ok-script.ensures
