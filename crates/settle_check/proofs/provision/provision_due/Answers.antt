use Rattle.std.proofs.Common.{◌∙◌, sym, ap}
use Rattle.settle_check.specs.WorldOf.{world_of}
use Rattle.settle_check.specs.Steps.Asking.{call_due}
use Rattle.settle_check.proofs.Asked.{completed_wants_none, none_begins, one_begins}
use Rattle.settle_check.proofs.provision.provision_due.Goals as goal

pub returns-then-is_completed : goal.returns-then-is_completed
returns-then-is_completed c = completed_wants_none c.args.world.now.setup (world_of c.args.world.now) c.args.claim.now (sym c.is_completed.ensures ∙ c.if-is_completed.true)

pub returns-in-None : goal.returns-in-None
returns-in-None c =
    none_begins c.args.world.now.setup (world_of c.args.world.now) c.store.result.now c.args.claim.now _ c.store.ensures c.in_ok-machine_for.ensures c.in-None.is

pub returns-in_ok-call-in-Some : goal.returns-in_ok-call-in-Some
returns-in_ok-call-in-Some c =
    let w = c.args.world.now in
    c.call_due.ensures ∙ ap (call_due w.setup (world_of w) c.in-Some.op.class.delayed) c.in_ok-call-in-Some.ensures
    ∙ one_begins w.setup (world_of w) c.store.result.now c.args.claim.now _ c.in-Some.op c.store.ensures c.in_ok-machine_for.ensures c.in-Some.is
