-- What a watch tells: the writes after a version, of a kind, in order. The log begins with the newest write.
-- `base` is the version with which the world began.
-- Source: Kubernetes API concepts, "Efficient detection of changes"; the window and the limit are this project's choice.
use Rattle.std.specs.Prelude.{ℕ, ◌-◌, ◌==◌, nat_lt, max, Bool, ◌&&◌, List, [], ◌∷◌, reverse, filter, take, length, if◌then◌else◌}
use Rattle.kube_parts.specs.declared.parts.Kind.{Kind}
use Rattle.kube_objects.specs.Keys.{is_of_kind}
use Rattle.call_types.specs.declared.reply.Event.{Event}
use Rattle.call_types.specs.declared.reply.Events.{Events}

-- how many versions back a watch may begin
abbrev pub window : ℕ
window = 512

-- how many events one answer has at most
abbrev pub most_events : ℕ
most_events = 64

-- the least version from which a watch is served
abbrev pub oldest : ℕ → ℕ → ℕ
oldest base version = max base (version - window)

-- the event is of the kind and after the version
abbrev pub is_later : Kind → ℕ → Event → Bool
is_later kind from e = nat_lt from e.version && is_of_kind kind e.object

-- the events of the kind after the version, the oldest first
abbrev pub events_after : Kind → ℕ → List Event → List Event
events_after kind from log = reverse (filter (is_later kind from) log)

-- the version of the last of these events, or the one given where there are none
abbrev pub last_version : ℕ → List Event → ℕ
last_version none [] = none
last_version none (e ∷ es) = last_version e.version es

-- a full answer reaches to its last event, any other to the store's version
abbrev pub reached_version : ℕ → List Event → ℕ
reached_version version es = if length es == most_events then last_version version es else version

-- the answer to a watch: the first events after its version, and the version up to which they tell all
abbrev pub told_events : Kind → ℕ → ℕ → List Event → Events
told_events kind from version log =
    let es = take most_events (events_after kind from log) in
    record { events = es; upto = reached_version version es }
