use Rattle.worker_core.proofs.KeysKept.{answers_keep_keys}
use Rattle.worker_core.proofs.laws.answers_keep_keys.Goals as goal

pub returns : goal.returns
returns c = answers_keep_keys
