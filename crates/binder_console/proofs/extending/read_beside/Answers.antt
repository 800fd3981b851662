use Rattle.binder_console.proofs.Beside.{extended_is_readable}
use Rattle.binder_console.proofs.extending.read_beside.Goals as goal

-- src/extending.rt:20:1
pub returns-clause-readable : goal.returns-clause-readable
returns-clause-readable c = extended_is_readable c.args.input.now c.in_ok-extended.extended c.in_ok-extended.ensures.gives
