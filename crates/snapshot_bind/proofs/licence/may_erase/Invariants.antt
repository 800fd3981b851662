use Rattle.std.specs.Prelude.{◌≤◌, length, reverse, take}
use Rattle.snapshot_bind.specs.Licences.{ToldGone}
use Rattle.snapshot_bind.proofs.licence.may_erase.Given as goal

-- the calls before this place tell it, or no calls do
abbrev pub invariant-loop-left : goal.invariant-loop-left
invariant-loop-left l = record {
  within : l.left ≤ length l.mine;
  down : ToldGone l.name l.version (reverse l.mine) → ToldGone l.name l.version (reverse (take l.left l.mine));
  up : ToldGone l.name l.version (reverse (take l.left l.mine)) → ToldGone l.name l.version (reverse l.mine);
}

abbrev pub decreases-loop-left : goal.decreases-loop-left
decreases-loop-left l = l.left
