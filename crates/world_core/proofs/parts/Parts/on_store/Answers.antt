use Rattle.std.proofs.Common.{◌∙◌, ap}
use Rattle.binder_model.specs.Answers.{outcome}
use Rattle.world_core.proofs.Moves.{next_event, writes}
use Rattle.world_core.proofs.parts.Parts.on_store.Goals as goal

pub write-requires-clause-next : goal.write-requires-clause-next
write-requires-clause-next c =
    next_event c.args.self.now c.args.kind c.args.request.now _ c.requires.may
    (c.in_ok-made.ensures ∙ ap (outcome c.args.self.now.store c.args.kind c.args.request.now c.args.self.now.moment) c.stale_epoch-stale.ensures)

pub returns-clause-ok : goal.returns-clause-ok
returns-clause-ok c =
    writes c.args.self.now c.write.new.self c.args.kind c.args.request.now _ c.write.result c.requires.asked c.requires.may
    (c.in_ok-made.ensures ∙ ap (outcome c.args.self.now.store c.args.kind c.args.request.now c.args.self.now.moment) c.stale_epoch-stale.ensures)
    c.write.ensures.store c.write.ensures.log c.write.ensures.base c.write.ensures.version c.write.ensures.devices c.write.ensures.moment c.write.ensures.told c.write.ensures.kept
