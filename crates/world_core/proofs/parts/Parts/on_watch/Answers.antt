use Rattle.world_core.proofs.Moves.{refuses, watch_served, watch_ahead, watch_gone}
use Rattle.world_core.proofs.parts.Parts.on_watch.Goals as goal

pub returns-in_ok-kept-in-Ok-clause-ok : goal.returns-in_ok-kept-in-Ok-clause-ok
returns-in_ok-kept-in-Ok-clause-ok c =
    watch_served c.args.self.now c.args.kind c.args.of c.args.from c.in-Ok.events c.in_ok-kept-in-Ok.kept
    (record { gone = c.in-Ok.ensures.gone; ahead = c.in-Ok.ensures.ahead; all = c.in-Ok.ensures.all; memory = c.in-Ok.ensures.memory })
    c.in_ok-kept-in-Ok.ensures

pub returns-in-Err-Ahead-clause-ok : goal.returns-in-Err-Ahead-clause-ok
returns-in-Err-Ahead-clause-ok c =
    refuses c.args.self.now c.args.kind _ _ c.refuse.result
    (watch_ahead c.args.self.now c.args.kind c.args.of c.args.from _ c.in-Err-Ahead.field-0 c.in-Err-Ahead.field-0-is
    (record { gone = c.in-Err-Ahead.ensures.gone; ahead = c.in-Err-Ahead.ensures.ahead; all = c.in-Err-Ahead.ensures.all; memory = c.in-Err-Ahead.ensures.memory }))
    c.refuse.ensures.told c.refuse.ensures.kept

pub returns-in-Err-Gone-clause-ok : goal.returns-in-Err-Gone-clause-ok
returns-in-Err-Gone-clause-ok c =
    refuses c.args.self.now c.args.kind _ _ c.refuse-in-Err-Gone.result
    (watch_gone c.args.self.now c.args.kind c.args.of c.args.from c.in-Err-Gone.oldest c.in-Err-Gone.field-0 c.in-Err-Gone.field-0-is
    (record { gone = c.in-Err-Gone.ensures.gone; ahead = c.in-Err-Gone.ensures.ahead; all = c.in-Err-Gone.ensures.all; memory = c.in-Err-Gone.ensures.memory }))
    c.refuse-in-Err-Gone.ensures.told c.refuse-in-Err-Gone.ensures.kept
