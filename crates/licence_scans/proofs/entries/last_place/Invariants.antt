use Rattle.std.proofs.Common.{◌≤◌, length, reverse, drop}
use Rattle.binder_model.specs.Told.{SomeOf}
use Rattle.licence_scans.proofs.entries.last_place.Given as goal

-- none of the newer entries is one
abbrev pub invariant-loop-left : goal.invariant-loop-left
invariant-loop-left g l = record {
  within : l.left ≤ length l.mine;
  since : SomeOf (g.T.EntryTest.allows l.test) (reverse (drop l.left l.mine)) → ⊥;
}

abbrev pub decreases-loop-left : goal.decreases-loop-left
decreases-loop-left g l = l.left
