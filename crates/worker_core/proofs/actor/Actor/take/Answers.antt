use Rattle.worker_core.proofs.Absorbing.{on_ok, take_caches}
use Rattle.worker_core.proofs.actor.Actor.take.Goals as goal

pub returns-in-Told-clause-caches : goal.returns-in-Told-clause-caches
returns-in-Told-clause-caches c = on_ok c.told.result _ _ c.told.ensures.caches (take_caches _ _ _ _ _ c.in-Told.is)
