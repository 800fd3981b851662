use Rattle.std.proofs.Common.{◌≡◌, ◌≤◌, ◌++◌, length}
use Rattle.binder_model.specs.Watching.{most_events}
use Rattle.watch_log.specs.Kept.{events_among}
use Rattle.watch_log.proofs.log.events_among.Given as goal

abbrev pub invariant-loop-left : goal.invariant-loop-left
invariant-loop-left l = record {
  within : l.left ≤ length l.events.items;
  most : length l.told ≤ most_events;
  told : l.told ++ events_among l.kind l.left l.events.items ≡ events_among l.kind l.count l.events.items;
}

abbrev pub decreases-loop-left : goal.decreases-loop-left
decreases-loop-left l = l.left
