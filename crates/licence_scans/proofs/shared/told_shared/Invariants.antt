use Rattle.std.proofs.Common.{◌≤◌, length, reverse, drop}
use Rattle.binder_model.specs.Told.{ToldObject}
use Rattle.licence_scans.proofs.shared.told_shared.Given as goal

-- none of the newer entries told such an object
abbrev pub invariant-loop-left : goal.invariant-loop-left
invariant-loop-left g l = record {
  within : l.left ≤ length l.mine;
  since : ToldObject (λ o. g.T.SharedTest.allows l.test o × g.T.SharedTest.holds l.test o) (reverse (drop l.left l.mine)) → ⊥;
}

abbrev pub decreases-loop-left : goal.decreases-loop-left
decreases-loop-left g l = l.left
