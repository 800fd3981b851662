use Rattle.worker_core.proofs.KeysKept.{turns_keep_keys}
use Rattle.worker_core.proofs.laws.turns_keep_keys.Goals as goal

pub returns : goal.returns
returns c = turns_keep_keys
