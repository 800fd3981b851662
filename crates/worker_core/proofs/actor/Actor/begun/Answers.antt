use Rattle.worker_core.proofs.Begins.{begins}
use Rattle.worker_core.proofs.actor.Actor.begun.Goals as goal

pub returns-clause-stands : goal.returns-clause-stands
returns-clause-stands c = begins _ _ c.of.ensures
