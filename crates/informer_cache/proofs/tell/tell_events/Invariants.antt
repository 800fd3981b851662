use Rattle.std.proofs.Common.{◌≡◌, ◌≤◌, length, drop}
use Rattle.kube_objects.specs.declared.key.Key.{Key}
use Rattle.binder_model.specs.Told.{later, told_by_events}
use Rattle.informer_cache.specs.Knowledge.{telling_in}
use Rattle.informer_cache.proofs.tell.tell_events.Given as goal

-- the events from this place on were told
abbrev pub invariant-loop-at : goal.invariant-loop-at
invariant-loop-at l = record {
  within : l.at ≤ length l.events;
  kind : l.rows.kind ≡ l.initial.rows.kind;
  told : (k : Key) → k.kind ≡ l.initial.rows.kind → telling_in l.rows l.lists k ≡ later (told_by_events (drop l.at l.events) k) (telling_in l.initial.rows l.lists k);
}

abbrev pub decreases-loop-at : goal.decreases-loop-at
decreases-loop-at l = l.at
