use Rattle.node_agent.proofs.Allowed.{calls_read_no_kind}
use Rattle.node_agent.proofs.laws.calls_read_no_kind.Goals as goal

pub returns : goal.returns
returns c = calls_read_no_kind
