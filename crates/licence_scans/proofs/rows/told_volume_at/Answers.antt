use Rattle.std.proofs.Common.{reverse}
use Rattle.licence_scans.proofs.Tried.{volume_at}
use Rattle.licence_scans.proofs.rows.told_volume_at.Goals as goal

pub returns : goal.returns
returns g c = volume_at c.args.given c.args.namespace.now c.args.name.now (g.T.VolumeTest.allows c.args.row.now) (reverse c.args.mine.now) _ c.told_object_at.ensures
