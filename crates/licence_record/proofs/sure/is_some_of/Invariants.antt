use Rattle.std.specs.Prelude.{drop}
use Rattle.binder_model.specs.Told.{SomeOf}
use Rattle.licence_record.proofs.sure.is_some_of.Given as goal

-- what is to be found is still ahead
abbrev pub invariant-loop-object : goal.invariant-loop-object
invariant-loop-object g l = g.T.SureTest.sure l.test → SomeOf (g.T.SureTest.allows l.test) l.objects → SomeOf (g.T.SureTest.allows l.test) (drop l.object-index l.objects)
