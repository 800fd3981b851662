use Rattle.std.proofs.Common.{◌↔◌, ◌≤◌, length, reverse, take}
use Rattle.binder_model.specs.Licence.{AreOfKind}
use Rattle.licence_record.proofs.whole.are_of_kind.Given as goal

-- the newer ones have the kind
abbrev pub invariant-loop-left : goal.invariant-loop-left
invariant-loop-left l = record {
  within : l.left ≤ length l.mine;
  older : AreOfKind l.kind (reverse l.mine) ↔ AreOfKind l.kind (reverse (take l.left l.mine));
}

abbrev pub decreases-loop-left : goal.decreases-loop-left
decreases-loop-left l = l.left
