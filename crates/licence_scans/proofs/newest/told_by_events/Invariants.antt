use Rattle.std.proofs.Common.{◌≡◌, ◌≤◌, length, drop}
use Rattle.binder_model.specs.Told.{told_by_events}
use Rattle.licence_scans.specs.Keyed.{as_telling, key_at}
use Rattle.licence_scans.proofs.newest.told_by_events.Given as goal

-- the events from this place on were told
abbrev pub invariant-loop-left : goal.invariant-loop-left
invariant-loop-left l = record {
  within : l.left ≤ length l.events;
  told : as_telling l.told ≡ told_by_events (drop l.left l.events) (key_at l.kind l.namespace l.name);
}

abbrev pub decreases-loop-left : goal.decreases-loop-left
decreases-loop-left l = l.left
