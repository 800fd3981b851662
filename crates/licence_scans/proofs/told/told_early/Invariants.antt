use Rattle.std.proofs.Common.{reverse, take}
use Rattle.binder_model.specs.Told.{ToldObject}
use Rattle.licence_scans.proofs.told.told_early.Given as goal

-- none of the entries so far told such an object
abbrev pub invariant-loop-entry : goal.invariant-loop-entry
invariant-loop-entry g l = ToldObject (g.T.ObjectTest.allows l.test) (reverse (take l.entry-index l.mine)) → ⊥
