use Rattle.std.proofs.Common.{subst}
use Rattle.licence_scans.proofs.rows.WrittenAtSharedTest.shares.Goals as goal

pub returns : goal.returns
returns g c object other same held = subst (g.T.ObjectTest.allows c.args.self.now.row.now) same held
