use Rattle.worker_core.proofs.KeysKept.{wakes_keep_keys}
use Rattle.worker_core.proofs.laws.wakes_keep_keys.Goals as goal

pub returns : goal.returns
returns c = wakes_keep_keys
