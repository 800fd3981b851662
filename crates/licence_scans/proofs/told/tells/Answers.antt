use Rattle.std.proofs.Common.{refl}
use Rattle.licence_scans.proofs.Afters.{tells_found}
use Rattle.licence_scans.proofs.told.tells.Goals as goal

pub returns-in-Some : goal.returns-in-Some
returns-in-Some g c = ((λ _. tells_found (g.T.ObjectTest.allows c.args.test.now) c.args.entry.now _ c.in-Some.ensures.0 c.in-Some.ensures.1), (λ _. refl))
