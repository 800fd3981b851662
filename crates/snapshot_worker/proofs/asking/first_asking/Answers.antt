use Rattle.std.proofs.Common.{sym}
use Rattle.snapshot_worker.proofs.Firsts.{first_here, none_next}
use Rattle.snapshot_worker.proofs.asking.first_asking.Goals as goal

pub returns-then-has_ask-clause-first : goal.returns-then-has_ask-clause-first
returns-then-has_ask-clause-first g c =
    first_here (g.T.Asking.asks c.args.rule.now) c.args.rows.now c.loop-at.at c.index-rows-at.result c.loop-at-test.true (sym c.index-rows-at.is) c.loop-at.invariant (sym c.if-has_ask.ensures)

pub loop-at-preserved : goal.loop-at-preserved
loop-at-preserved g c =
    none_next (g.T.Asking.asks c.args.rule.now) c.args.rows.now c.loop-at.at c.index-rows-at.result c.loop-at-test.true (sym c.index-rows-at.is) c.loop-at.invariant (sym c.if-has_ask.ensures)
