use Rattle.std.specs.Prelude.{drop}
use Rattle.binder_model.specs.Told.{SomeOf}
use Rattle.licence_scans.proofs.told.find_of.Given as goal

-- what is to be found is still ahead
abbrev pub invariant-loop-object : goal.invariant-loop-object
invariant-loop-object g l = SomeOf (g.T.ObjectTest.allows l.test) l.objects → SomeOf (g.T.ObjectTest.allows l.test) (drop l.object-index l.objects)
