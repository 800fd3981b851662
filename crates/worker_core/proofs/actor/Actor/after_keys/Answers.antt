use Rattle.std.proofs.Common.{sym}
use Rattle.worker_core.proofs.Turned.{idle_after, pass_begins, under_given}
use Rattle.worker_core.proofs.actor.Actor.after_keys.Goals as goal

pub returns-then-not-self : goal.returns-then-not-self
returns-then-not-self c = rw (sym c.self.view_is) (idle_after _ _ _ c.in_ok-under.ensures c.in-None.is c.if-not-self.true)

pub returns-else-not-self : goal.returns-else-not-self
returns-else-not-self c = rw (sym c.self.view_is) (pass_begins _ _ _ c.in_ok-under.ensures _ _ _ c.in-None.is c.if-not-self.false c.first_kind-first.ensures c.read.ensures)

pub returns-in_ok-call-in-Some : goal.returns-in_ok-call-in-Some
returns-in_ok-call-in-Some c = rw (sym c.self.view_is) (under_given _ _ _ c.in_ok-under.ensures _ _ c.in-Some.is c.in_ok-call-in-Some.ensures)
