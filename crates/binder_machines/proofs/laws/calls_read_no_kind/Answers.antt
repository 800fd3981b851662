use Rattle.binder_machines.proofs.Reaching.{calls_read_no_kind}
use Rattle.binder_machines.proofs.laws.calls_read_no_kind.Goals as goal

pub returns : goal.returns
returns c = calls_read_no_kind
