use Rattle.std.proofs.Common.{sym, ◌∙◌, rules, reverse}
use Rattle.licence_rows.proofs.Rows.{bind_row}
use Rattle.licence_rows.proofs.binder.BindVolumeTest.test.Goals as goal

pub returns-in-Some : goal.returns-in-Some
returns-in-Some c = bind_row (reverse c.args.self.now.mine.now) c.args.volume.now c.in-Some.uid _ (sym c.is_ended.ensures ∙ c.if-is_ended.false)
    (search rules) (sym c.ref_uid.ensures ∙ c.in-Some.is) c.told_here.ensures
