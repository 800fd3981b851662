use Rattle.worker_core.proofs.Answered.{answer_licensed, gives_asked, idle_quiet}
use Rattle.worker_core.proofs.KeysKept.{turns_keep_keys}
use Rattle.worker_core.proofs.Turning.{turn_stands}
use Rattle.worker_core.proofs.actor.Actor.next.Goals as goal

pub returns-clause-stands : goal.returns-clause-stands
returns-clause-stands c = λ mine stands. turn_stands _ _ _ mine c.stand.ensures.order stands c.in_ok-answer.ensures

pub returns-clause-licensed : goal.returns-clause-licensed
returns-clause-licensed c = λ mine stands. answer_licensed _ _ _ mine c.stand.ensures.built c.stand.ensures.order stands c.in_ok-answer.ensures

pub returns-clause-idle : goal.returns-clause-idle
returns-clause-idle c = λ mine stands. idle_quiet _ _ _ mine stands c.in_ok-answer.ensures

pub returns-clause-keys : goal.returns-clause-keys
returns-clause-keys c = turns_keep_keys _ _ _ c.in_ok-answer.ensures

pub returns-clause-asked : goal.returns-clause-asked
returns-clause-asked c = gives_asked c.args.self.now _ _ c.in_ok-answer.ensures
