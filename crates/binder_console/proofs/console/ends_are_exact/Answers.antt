use Rattle.binder_console.proofs.Ends.{are_exact}
use Rattle.binder_console.proofs.console.ends_are_exact.Goals as goal

pub returns : goal.returns
returns c = λ status words before after e. are_exact status words before after e.by
