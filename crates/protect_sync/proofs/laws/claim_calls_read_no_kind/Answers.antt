use Rattle.protect_sync.proofs.Allowed.{claim_calls_read_no_kind}
use Rattle.protect_sync.proofs.laws.claim_calls_read_no_kind.Goals as goal

pub returns : goal.returns
returns c = claim_calls_read_no_kind
