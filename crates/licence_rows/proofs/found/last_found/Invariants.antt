use Rattle.std.proofs.Common.{◌≡◌, ◌≤◌, length, reverse, take}
use Rattle.binder_model.specs.Told.{last_found}
use Rattle.licence_rows.proofs.found.last_found.Given as goal

-- the last of all is that of the older ones
abbrev pub invariant-loop-left : goal.invariant-loop-left
invariant-loop-left l = record {
  within : l.left ≤ length l.mine;
  older : last_found l.id (reverse l.mine) ≡ last_found l.id (reverse (take l.left l.mine));
}

abbrev pub decreases-loop-left : goal.decreases-loop-left
decreases-loop-left l = l.left
