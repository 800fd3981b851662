use Rattle.model_laws.proofs.Computed.{claim_gone_between_writes}
use Rattle.model_laws.proofs.claim_gone_between_writes.Goals as goal

pub returns : goal.returns
returns c = claim_gone_between_writes
