use Rattle.std.proofs.Common.{refl, reverse}
use Rattle.licence_scans.proofs.Afters.{told_found}
use Rattle.licence_scans.proofs.told.told_object.Goals as goal

pub returns-in-Some : goal.returns-in-Some
returns-in-Some g c = ((λ _. told_found (g.T.ObjectTest.allows c.args.test.now) (reverse c.args.mine.now) _ c.in-Some.ensures.holds c.in-Some.ensures.told), (λ _. refl))
