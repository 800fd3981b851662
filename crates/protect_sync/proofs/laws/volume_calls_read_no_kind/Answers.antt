use Rattle.protect_sync.proofs.Allowed.{volume_calls_read_no_kind}
use Rattle.protect_sync.proofs.laws.volume_calls_read_no_kind.Goals as goal

pub returns : goal.returns
returns c = volume_calls_read_no_kind
