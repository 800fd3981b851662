use Rattle.std.proofs.Common.{sym, ap, ◌∙◌}
use Rattle.snapshot_worker.proofs.Firsts.{ask_first, ask_none, ok_same}
use Rattle.snapshot_worker.proofs.asking.first_ask.Goals as goal

pub returns-in-Some : goal.returns-in-Some
returns-in-Some g c =
    let first = ask_first (g.T.Asking.asks c.args.rule.now) c.args.rows.now c.in-Some.at c.index-rows-at.result c.in-Some.ensures.first in
    ok_same _ c.ask.result (ap (g.T.Asking.asks c.args.rule.now) c.index-rows-at.is ∙ sym first) c.ask.ensures

pub returns-in-None : goal.returns-in-None
returns-in-None g c = sym (ask_none (g.T.Asking.asks c.args.rule.now) c.args.rows.now c.in-None.ensures.none)
