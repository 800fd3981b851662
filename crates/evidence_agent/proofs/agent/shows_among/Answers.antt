use Rattle.std.proofs.Common.{arith, reverse}
use Rattle.evidence_agent.proofs.Sight.{shown_by, told_in}
use Rattle.evidence_agent.proofs.agent.shows_among.Goals as goal

pub returns-then-is_shown : goal.returns-then-is_shown
returns-then-is_shown c = λ t epoch at.
    let mine = reverse c.args.entries.now in
    shown_by mine c.args.taken c.args.node.now epoch c.args.uid c.args.claims.now c.told-item.result at
    (told_in mine c.args.tellings.now c.loop-told.told-index c.told-item.result (omega arith) c.told-item.is c.requires.told) (c.is_shown.ensures c.if-is_shown.true)
