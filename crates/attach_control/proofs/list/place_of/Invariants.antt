use Rattle.std.proofs.Common.{◌≡◌, ◌≤◌, ◌-◌, ◌++◌, drop, length, take}
use Rattle.attach_law.specs.Calls.{put_attachment}
use Rattle.attach_control.proofs.list.place_of.Given as goal

-- all before this place stand before the new one
abbrev pub invariant-loop-at : goal.invariant-loop-at
invariant-loop-at l = record {
  within : l.at ≤ length l.list;
  place : put_attachment l.new l.list ≡ take l.at l.list ++ put_attachment l.new (drop l.at l.list);
}

abbrev pub decreases-loop-at : goal.decreases-loop-at
decreases-loop-at l = length l.list - l.at
