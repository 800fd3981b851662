use Rattle.std.proofs.Common.{rules}
use Rattle.binder_console.proofs.console.end_answer.Goals as goal

pub returns-in-Output-clause-written : goal.returns-in-Output-clause-written
returns-in-Output-clause-written g c = search rules
