use Rattle.worker_core.proofs.Absorbing.{on_ok}
use Rattle.worker_core.proofs.KeysKept.{woken_keys}
use Rattle.worker_core.proofs.actor.Actor.wake.Goals as goal

pub returns-clause-keys : goal.returns-clause-keys
returns-clause-keys c = on_ok c.queue_all.result _ _ c.queue_all.ensures (woken_keys _ _)
