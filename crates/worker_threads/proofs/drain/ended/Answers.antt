use Rattle.std.proofs.Common.{sym, subst, refl, arith, Option, Some}
use Rattle.kube_objects.specs.declared.key.Key.{Key}
use Rattle.settle_check.specs.declared.first.FirstDue.{FirstDue}
use Rattle.binder_model.specs.Due.{IsFirstDue}
use Rattle.settle_check.specs.WorldOf.{world_of}
use Rattle.settle_check.specs.First.{first_key}
use Rattle.worker_threads.proofs.drain.ended.Goals as goal

pub returns-in-None : goal.returns-in-None
returns-in-None c =
    let w = c.args.world.now in
    (subst (λ (found : Option FirstDue). IsFirstDue w.setup (world_of w) (first_key found)) c.in-None.is c.in_ok-first_due.ensures, omega (arith, c.requires))

pub returns-in_ok-key-in-Some : goal.returns-in_ok-key-in-Some
returns-in_ok-key-in-Some c =
    let w = c.args.world.now in
    let due = subst (λ (found : Option FirstDue). IsFirstDue w.setup (world_of w) (first_key found)) c.in-Some.is c.in_ok-first_due.ensures in
    ((refl, subst (λ (k : Key). IsFirstDue w.setup (world_of w) (Some (k, c.in-Some.first.action))) (sym c.in_ok-key-in-Some.ensures) due), omega (arith, c.if-left-eq0.true))

pub returns-else-left-eq0 : goal.returns-else-left-eq0
returns-else-left-eq0 c =
    let w = c.args.world.now in
    let due = subst (λ (found : Option FirstDue). IsFirstDue w.setup (world_of w) (first_key found)) c.in-Some.is c.in_ok-first_due.ensures in
    (omega (arith, c.if-left-eq0.false), (_, due))
