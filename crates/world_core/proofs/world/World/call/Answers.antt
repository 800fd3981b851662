use Rattle.std.proofs.Common.{◌∷◌, ◌∙◌, sym, subst, reverse}
use Rattle.call_types.specs.declared.entry.Entry.{Entry}
use Rattle.world_core.specs.Kept.{IsKept}
use Rattle.world_core.proofs.Worlds.{may_move, kept_next, entry_kept, next_past, still_short}
use Rattle.world_core.proofs.world.World.call.Goals as goal

pub answer-requires : goal.answer-requires
answer-requires c = record { may = may_move c.self.inside.setup (reverse c.self.inside.entries.items) c.self.inside.parts c.self.invariant }

pub invariant_of-self-2 : goal.invariant_of-self-2
invariant_of-self-2 c =
    let e : Entry = record { seat = c.args.seat; kind = c.args.kind; request = c.in_ok-asked.asked; reply = c.in_ok-reply.kept; told = c.args.told } in
    let before = c.self.inside.entries.items in
    subst (λ past. IsKept c.self.inside.setup past c.answer.new.self)
    (sym (next_past before c.make_room.new.entries.items c.push_reserved.new.self.items e c.make_room.ensures.items c.push_reserved.ensures.items))
    (kept_next c.self.inside.setup (reverse before) c.self.inside.parts c.answer.new.self e c.in_ok-reply.reply c.self.invariant
    (still_short before c.in_ok-make_room.ensures.short) c.in_ok-reply.ensures.ok)

pub returns-clause-entry : goal.returns-clause-entry
returns-clause-entry c =
    let e : Entry = record { seat = c.args.seat; kind = c.args.kind; request = c.in_ok-asked.asked; reply = c.in_ok-reply.kept; told = c.args.told } in
    let before = c.self.inside.entries.items in
    let same = entry_kept c.self.inside.setup
    (reverse before) c.self.inside.parts c.answer.new.self c.args.kind c.in_ok-asked.asked c.in_ok-reply.reply c.in_ok-reply.kept c.self.invariant c.in_ok-reply.ensures.ok in
    next_past before c.make_room.new.entries.items c.push_reserved.new.self.items e c.make_room.ensures.items c.push_reserved.ensures.items
    ∙ (λ i. (record { seat = c.args.seat; kind = c.args.kind; request = c.in_ok-asked.ensures i; reply = same i; told = c.args.told }) ∷ (c.self.view_is i).past)
