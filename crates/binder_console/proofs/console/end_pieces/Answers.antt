use Rattle.std.proofs.Common.{rules}
use Rattle.binder_console.proofs.console.end_pieces.Goals as goal

pub returns-in-Ok-clause-written : goal.returns-in-Ok-clause-written
returns-in-Ok-clause-written g c = search rules
