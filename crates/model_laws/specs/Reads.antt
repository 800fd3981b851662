-- What reads tell, and what devices give.
-- A choice of this project, as the definitions are; their sources stand in `binder_model`.
use Rattle.std.specs.Prelude.{ℕ, ◌≡◌, ◌<◌, ◌≤◌, ◌^◌, Bool, true, List, [], ◌∷◌, ◌++◌, Option, Some, None, length, take, reverse, filter}
use Rattle.kube_objects.specs.declared.key.Key.{Key}
use Rattle.kube_parts.specs.declared.parts.Kind.{Kind}
use Rattle.kube_objects.specs.declared.objects.DataId.{DataId}
use Rattle.kube_objects.specs.declared.objects.Object.{Object}
use Rattle.kube_objects.specs.Keys.{AreRows, key_of, row_at, is_of_kind}
use Rattle.call_types.specs.declared.entry.Entry.{Entry}
use Rattle.call_types.specs.declared.setup.Setup.{Setup}
use Rattle.call_types.specs.declared.request.SeatKind.{SeatKind}
use Rattle.call_types.specs.declared.request.Request.TheVariants.{Get, List as ListOf, TakeNode, Watch}
use Rattle.call_types.specs.declared.reply.Event.{Event}
use Rattle.call_types.specs.declared.reply.Events.{Events as EventsData}
use Rattle.call_types.specs.declared.reply.Refusal.TheVariants.{NotFound}
use Rattle.call_types.specs.declared.reply.Reply.{Reply}
use Rattle.call_types.specs.declared.reply.Reply.TheVariants.{Found, Listed, Events, Epoch, Refused}
use Rattle.binder_model.specs.Answers.{is_in_namespace}
use Rattle.binder_model.specs.Told.{SomeOf}
use Rattle.binder_model.specs.Devices.{Data}
use Rattle.binder_model.specs.Watching.{most_events, oldest, reached_version, events_after}
use Rattle.binder_model.specs.World.{base, World, Effect, OnStore, world, effect, log_after, reply_to, world_after}

-- the object that stands under the key, or that there is none
abbrev pub found : Option Object → Reply
found None = Refused NotFound
found (Some o) = Found o

-- a Get tells what stands there
abbrev pub GetsTellWhatStands : Type 0
GetsTellWhatStands = (setup : Setup) (w : World) (kind : SeatKind) (key : Key) → reply_to (effect setup w kind (Get key)) ≡ found (row_at key w.store.rows)

-- the object is in the namespace, or none was asked for
abbrev pub fits_namespace : Option (List ℕ) → Object → Bool
fits_namespace None o = true
fits_namespace (Some namespace) o = is_in_namespace namespace o

-- the list has the object just where it stands in the store and is of the kind and the namespace, and tells the version
pub record TellsRows (w : World) (of_kind : Kind) (namespace : Option (List ℕ)) (items : List Object) (version : ℕ) : Type 0 where
  pub at : version ≡ w.store.version
  pub stands : (o : Object) → SomeOf (λ x. x ≡ o) items → row_at (key_of o) w.store.rows ≡ Some o
  pub listed : (o : Object) → row_at (key_of o) w.store.rows ≡ Some o → is_of_kind of_kind o ≡ true → fits_namespace namespace o ≡ true → SomeOf (λ x. x ≡ o) items

-- a List is answered with the objects of its kind and namespace that stand, and with the store's version
abbrev pub ListsTellWhatStands : Type 0
ListsTellWhatStands =
    (setup : Setup) (w : World) (kind : SeatKind) (of_kind : Kind) (namespace : Option (List ℕ)) → AreRows w.store.rows
    → (items : List Object) × ((version : ℕ) × ((reply_to (effect setup w kind (ListOf of_kind namespace)) ≡ Listed items version) × TellsRows w of_kind namespace items version))

-- a list is in the order of keys, so it tells each object once
abbrev pub ListsAreInOrder : Type 0
ListsAreInOrder =
    (setup : Setup) (w : World) (kind : SeatKind) (of_kind : Kind) (namespace : Option (List ℕ)) (items : List Object) (version : ℕ) → AreRows w.store.rows
    → reply_to (effect setup w kind (ListOf of_kind namespace)) ≡ Listed items version → AreRows items

-- an epoch of a node is told at most once, and later ones are greater
abbrev pub EpochsRise : Type 0
EpochsRise =
    (setup : Setup) (newer : Entry) (between : List Entry) (older : Entry) (past : List Entry) (node : List ℕ) (first second : ℕ)
    → older.request ≡ TakeNode node → newer.request ≡ TakeNode node
    → reply_to (effect setup (world setup past) older.kind older.request) ≡ Epoch first
    → reply_to (effect setup (world setup (between ++ older ∷ past)) newer.kind newer.request) ≡ Epoch second
    → first < second

-- what an effect adds to the data
pub record GivesData (w : World) (x : Effect) (id : DataId) : Type 0 where
  pub given : Data
  pub named : given.id ≡ id
  pub added : (world_after w x).devices.stored ≡ given ∷ w.devices.stored

-- what an entry's request comes to after the entries before it
abbrev pub effect_of : Setup → Entry → List Entry → Effect
effect_of setup e past = effect setup (world setup past) e.kind e.request

-- a data id is given once, in histories of fewer than 2^60 entries
abbrev pub DataIdsAreGivenOnce : Type 0
DataIdsAreGivenOnce =
    (setup : Setup) (newer : Entry) (between : List Entry) (older : Entry) (past : List Entry) (id : DataId)
    → length (between ++ older ∷ past) < 2 ^ 60
    → GivesData (world setup past) (effect_of setup older past) id
    → GivesData (world setup (between ++ older ∷ past)) (effect_of setup newer (between ++ older ∷ past)) id
    → ⊥

-- the events that an effect leaves in the log
abbrev pub left_by : Effect → List Event
left_by (OnStore o) = log_after o []
left_by x = []

-- the events of entries after others, the newest first
abbrev pub events_by : Setup → List Entry → List Entry → List Event
events_by setup [] past = []
events_by setup (e ∷ newer) past = left_by (effect_of setup e (newer ++ past)) ++ events_by setup newer past

-- a watch from the version of an earlier world gives just the events of its kind after that, in order, the first 64
abbrev pub WatchesTellWhatCameAfter : Type 0
WatchesTellWhatCameAfter =
    (setup : Setup) (newer past : List Entry) (kind : SeatKind) (of_kind : Kind)
    → let from = (world setup past).store.version in
    let w = world setup (newer ++ past) in
    let es = take most_events (reverse (filter (λ e. is_of_kind of_kind e.object) (events_by setup newer past))) in
    oldest (base setup) w.store.version ≤ from
    → reply_to (effect setup w kind (Watch of_kind from)) ≡ Events (record { events = es; upto = reached_version w.store.version es })

-- a watch goes on where the last one ended: what it told, and then what a watch from its `upto` tells, is what came after
-- its start, also in any later world
abbrev pub WatchesGoOn : Type 0
WatchesGoOn =
    (setup : Setup) (newer past : List Entry) (kind : SeatKind) (of_kind : Kind) (from : ℕ) (told : EventsData)
    → reply_to (effect setup (world setup past) kind (Watch of_kind from)) ≡ Events told
    → events_after of_kind from (world setup (newer ++ past)).log ≡ told.events ++ events_after of_kind told.upto (world setup (newer ++ past)).log
