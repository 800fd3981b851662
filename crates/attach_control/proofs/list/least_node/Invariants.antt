use Rattle.std.proofs.Common.{◌≡◌, ◌≤◌, drop, filter, length}
use Rattle.std.specs.Option.{option_copied}
use Rattle.attach_law.specs.Calls.{forbids, least_node}
use Rattle.attach_control.proofs.list.least_node.Given as goal

-- the least of those from this place on
abbrev pub invariant-loop-at : goal.invariant-loop-at
invariant-loop-at l = record {
  within : l.at ≤ length l.list;
  least : option_copied l.best ≡ least_node (filter (forbids l.volume l.node l.many) (drop l.at l.list));
}

abbrev pub decreases-loop-at : goal.decreases-loop-at
decreases-loop-at l = l.at
