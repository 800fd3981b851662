use Rattle.std.proofs.Common.{◌≡◌, subst, sym}
use Rattle.binder_model.specs.World.{world as world_of}
use Rattle.attach_law.specs.Asks.{Makes}
use Rattle.attach_law.proofs.Asks.{made_turn}
use Rattle.attach_control.proofs.attachments.Attachments.turn.Goals as goal

pub returns-clause-ok : goal.returns-clause-ok
returns-clause-ok c =
    let w = world_of c.args.world.now.setup c.args.world.now.past in
    let old = c.args.self.now in
    let view : c.self.inside.list.items ≡ old = cc in
    let start : Makes w old c.new-asks.result.items c.self.inside.list.items = subst (λ l. Makes w old l c.self.inside.list.items) (sym c.new-asks.ensures.items) view in
    let half = c.detach_idle.ensures.made old start in
    let all = c.attach_asked.ensures.made old half in
    made_turn w old c.attach_asked.new.asks.items c.attach_asked.new.list.items all c.in_ok-attach_asked.ensures.done
