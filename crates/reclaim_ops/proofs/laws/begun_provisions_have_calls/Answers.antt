use Rattle.reclaim_ops.proofs.ProvisionBegun.{begun_provisions_have_calls}
use Rattle.reclaim_ops.proofs.laws.begun_provisions_have_calls.Goals as goal

pub returns : goal.returns
returns c = begun_provisions_have_calls
