-- What is kept of the events of all writes, and which events it stands for. The newest event stands first.
-- Source: Kubernetes API concepts, "Efficient detection of changes"; the window is this project's choice.
use Rattle.std.specs.Prelude.{ℕ, ◌≡◌, ◌-◌, ◌<◌, ◌≤◌, Bool, List, [], ◌∷◌, take, filter, reverse, length, min, ⊤}
use Rattle.kube_parts.specs.declared.parts.Kind.{Kind}
use Rattle.kube_objects.specs.Keys.{is_of_kind}
use Rattle.call_types.specs.declared.reply.Event.{Event}
use Rattle.binder_model.specs.Watching.{window}

-- a log, as its callers see it
pub record Log : Type 0 where
  -- the version with which the log began
  pub base : ℕ
  -- the version of the last event, the base before the first
  pub version : ℕ
  -- the events that are kept
  pub events : List Event
  -- how many events there is room for
  pub room : ℕ

-- the events of all writes: the first has the version after the base, each later one the next version, and the last
-- this version
abbrev pub AreAll : ℕ → ℕ → List Event → Type 0
AreAll base version [] = version ≡ base
AreAll base version (e ∷ es) = (base < version) × (e.version ≡ version) × AreAll base (version - 1) es

-- the log stands for these events: they are all that there were, and the newest of them are kept
pub record LogStandsFor (log : Log) (events : List Event) : Type 0 where
  pub all : AreAll log.base log.version events
  pub kept : log.events ≡ take window events

-- events at this version and at those right below it
abbrev pub AreLast : ℕ → List Event → Type 0
AreLast version [] = ⊤
AreLast version (e ∷ es) = (e.version ≡ version) × AreLast (version - 1) es

-- as many of the last events as there are and the window holds
pub record IsWindow (base version : ℕ) (events : List Event) : Type 0 where
  pub begun : base ≤ version
  pub last : AreLast version events
  pub count : length events ≡ min window (version - base)

-- the event is about an object of this kind
abbrev pub is_event_of : Kind → Event → Bool
is_event_of kind e = is_of_kind kind e.object

-- of the newest events, this many, those of the kind, the oldest first
abbrev pub events_among : Kind → ℕ → List Event → List Event
events_among kind count events = reverse (filter (is_event_of kind) (take count events))
