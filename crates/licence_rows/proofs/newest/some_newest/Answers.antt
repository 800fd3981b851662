use Rattle.std.proofs.Common.{reverse}
use Rattle.licence_rows.proofs.Asks.{newest_some}
use Rattle.licence_rows.proofs.newest.some_newest.Goals as goal

pub returns : goal.returns
returns g c = newest_some (g.T.ObjectTest.allows c.args.may.now) (g.U.ObjectTest.allows c.args.row.now) (reverse c.args.mine.now) _ c.told_shared.ensures
