use Rattle.worker_core.proofs.Absorbing.{lost_by, told_by}
use Rattle.worker_core.proofs.KeysKept.{absorbed_keys}
use Rattle.worker_core.proofs.actor.Actor.absorb.Goals as goal

pub returns-clause-told : goal.returns-clause-told
returns-clause-told c = told_by _ _ _ _ c.stand.ensures.built c.requires.asked c.in_ok-take.ensures.state c.in_ok-take.ensures.caches

pub returns-clause-lost_after : goal.returns-clause-lost_after
returns-clause-lost_after c = lost_by _ _ _ _ c.stand.ensures.built c.requires.asked c.in_ok-take.ensures.state

pub returns-clause-keys : goal.returns-clause-keys
returns-clause-keys c = absorbed_keys _ _ _ _ c.in_ok-take.ensures.state
