use Rattle.std.proofs.Common.{sym, arith, ◌∙◌}
use Rattle.snapshot_worker.proofs.Firsts.{content_here, content_next}
use Rattle.snapshot_worker.proofs.rules.first_content.Goals as goal

pub returns-then-picks : goal.returns-then-picks
returns-then-picks g c =
    sym (content_here (g.T.Picks.picks c.args.wanted.now) c.args.rows.now c.loop-seen.seen-index c.seen-item.result (omega arith) (sym c.seen-item.is) (sym c.if-picks.ensures)) ∙ c.loop-seen.invariant

pub loop-seen-preserved : goal.loop-seen-preserved
loop-seen-preserved g c =
    content_next (g.T.Picks.picks c.args.wanted.now) c.args.rows.now c.loop-seen.seen-index c.seen-item.result (omega arith) (sym c.seen-item.is) (sym c.if-picks.ensures) ∙ c.loop-seen.invariant
