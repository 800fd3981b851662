use Rattle.reclaim_ops.proofs.ProvisionBegun.{parked_provisions_have_ended}
use Rattle.reclaim_ops.proofs.laws.parked_provisions_have_ended.Goals as goal

pub returns : goal.returns
returns c = parked_provisions_have_ended
