use Rattle.model_laws.proofs.Computed.{deleted_volume_refuses}
use Rattle.model_laws.proofs.deleted_volume_refuses.Goals as goal

pub returns : goal.returns
returns c = deleted_volume_refuses
