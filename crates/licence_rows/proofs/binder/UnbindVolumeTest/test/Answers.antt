use Rattle.std.proofs.Common.{rules, reverse}
use Rattle.licence_rows.proofs.Rows.{unbind_row}
use Rattle.licence_rows.proofs.binder.UnbindVolumeTest.test.Goals as goal

pub returns-in-Some : goal.returns-in-Some
returns-in-Some c = unbind_row (reverse c.args.self.now.mine.now) c.args.volume.now c.args.self.now.new.now c.in-Some.uid _ (search rules)
    (search rules) (search rules) (search rules) c.told_elsewhere.ensures
