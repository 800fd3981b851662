-- What a watch tells is so much less to be told.
-- A choice of this project, after the watch cache of Kubernetes.
use Rattle.std.specs.Prelude.{Bool, List, false, length, take, true, ℕ, ◌+◌, ◌==◌, ◌≡◌, ◌≤◌}
use Rattle.binder_model.specs.Watching.{events_after, most_events, told_events}
use Rattle.binder_model.specs.World.{world}
use Rattle.call_types.specs.declared.entry.Entry.{Entry}
use Rattle.call_types.specs.declared.reply.Event.{Event}
use Rattle.call_types.specs.declared.setup.Setup.{Setup}
use Rattle.settle_calls.specs.Events.Counts.{pending}
use Rattle.kube_parts.specs.declared.parts.Kind.{Kind}

-- what a watch from the version tells
abbrev pub told : Kind → ℕ → List Event → List Event
told kind from log = take most_events (events_after kind from log)

-- what it tells is no longer to be told; a full answer reaches as many versions further at least, any other reaches the store's
pub record IsToldSo (kind : Kind) (from high : ℕ) (log : List Event) (full : Bool) : Type 0 where
  pub fewer : length (told kind from log) + pending kind (told_events kind from high log).upto log ≤ pending kind from log
  pub reached : full ≡ true → from + most_events ≤ (told_events kind from high log).upto
  pub whole : full ≡ false → (told_events kind from high log).upto ≡ high

-- a watch that was answered, its answer full or not
abbrev pub WatchesTellLess : Type 0
WatchesTellLess =
    (setup : Setup) (past : List Entry) (kind : Kind) (from : ℕ) (full : Bool) → from ≤ (world setup past).store.version → (length (told kind from (world setup past).log) == most_events) ≡ full
    → IsToldSo kind from (world setup past).store.version (world setup past).log full
