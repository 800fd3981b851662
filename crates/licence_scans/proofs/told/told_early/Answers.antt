use Rattle.std.proofs.Common.{arith, refl, subst}
use Rattle.binder_model.specs.Told.{TellsObject}
use Rattle.licence_scans.proofs.Fronts.{some_reverse}
use Rattle.licence_scans.proofs.told.told_early.Goals as goal

pub returns-then-tells : goal.returns-then-tells
returns-then-tells g c =
    let P = TellsObject (g.T.ObjectTest.allows c.args.test.now) in
    ((λ _. some_reverse P c.args.mine.now c.loop-entry.entry-index c.entry-item.result (omega arith) (subst P c.entry-item.is (c.if-tells.ensures.0 refl))), (λ _. refl))
