use Rattle.std.proofs.Common.{reverse}
use Rattle.licence_scans.proofs.Tried.{claim_at}
use Rattle.licence_scans.proofs.rows.told_claim_at.Goals as goal

pub returns : goal.returns
returns g c = claim_at c.args.given c.args.namespace.now c.args.name.now (g.T.ClaimTest.allows c.args.row.now) (reverse c.args.mine.now) _ c.told_object_at.ensures
