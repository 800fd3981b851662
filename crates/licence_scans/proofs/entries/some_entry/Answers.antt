use Rattle.std.proofs.Common.{refl}
use Rattle.licence_scans.proofs.Afters.{last_some}
use Rattle.licence_scans.proofs.entries.some_entry.Goals as goal

pub returns-in-Some : goal.returns-in-Some
returns-in-Some g c = ((λ _. last_some (g.T.EntryTest.allows c.args.test.now) c.args.mine.now c.in-Some.field-0 c.in-Some.ensures), λ _. refl)
