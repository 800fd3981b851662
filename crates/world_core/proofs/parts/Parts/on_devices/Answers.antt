use Rattle.std.proofs.Common.{sym}
use Rattle.world_core.proofs.Moves.{user_refused, refuses, devices_answer}
use Rattle.world_core.proofs.parts.Parts.on_devices.Goals as goal

pub returns-then-is_user-clause-ok : goal.returns-then-is_user-clause-ok
returns-then-is_user-clause-ok c =
    refuses c.args.self.now c.args.kind c.args.request.now _ c.refuse.result (λ setup w a. user_refused setup w c.args.kind c.args.request.now c.requires.asked (sym c.if-is_user.ensures))
    c.refuse.ensures.told c.refuse.ensures.kept

pub returns-clause-ok : goal.returns-clause-ok
returns-clause-ok c =
    devices_answer c.args.self.now c.args.kind c.args.request.now c.call.new.self c.in_ok-told.told c.in_ok-kept.kept c.requires.asked (sym c.if-is_user.ensures)
    c.in_ok-told.ensures.setup c.in_ok-told.ensures.ok c.in_ok-kept.ensures
