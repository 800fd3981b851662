use Rattle.std.proofs.Common.{◌≤◌, length, reverse, take}
use Rattle.binder_model.specs.Told.{ToldObject}
use Rattle.licence_scans.proofs.told.find_told.Given as goal

-- what is to be found is among the older ones
abbrev pub invariant-loop-left : goal.invariant-loop-left
invariant-loop-left g l = record {
  within : l.left ≤ length l.mine;
  older : ToldObject (g.T.ObjectTest.allows l.test) (reverse l.mine) → ToldObject (g.T.ObjectTest.allows l.test) (reverse (take l.left l.mine));
}

abbrev pub decreases-loop-left : goal.decreases-loop-left
decreases-loop-left g l = l.left
