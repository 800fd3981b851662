use Rattle.std.proofs.Common.{rules, reverse}
use Rattle.licence_rows.proofs.Rows.{release_row}
use Rattle.licence_rows.proofs.binder.ReleaseVolumeTest.test.Goals as goal

pub returns-in-Some-uid : goal.returns-in-Some-uid
returns-in-Some-uid c = release_row (reverse c.args.self.now.mine.now) c.args.volume.now c.in-Some.reference c.in-Some-uid.uid _ (search rules) c.in-Some.is c.in-Some-uid.is c.is_released_for.ensures
