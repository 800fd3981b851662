-- A seat knows a kind: of each key the newest that it was told is no older than the last change. So what it was told is what
-- stands, and it stays so while the seat alone calls.
-- A choice of this project, after the watch cache of Kubernetes.
use Rattle.std.specs.Prelude.{ℕ, ◌≡◌, ◌≤◌, ◌==◌, true, false, List, ◌∷◌, length, Option, Some}
use Rattle.kube_objects.specs.declared.key.Key.{Key}
use Rattle.kube_parts.specs.declared.parts.Kind.{Kind}
use Rattle.kube_objects.specs.Keys.{row_at}
use Rattle.call_types.specs.declared.entry.Entry.{Entry}
use Rattle.call_types.specs.declared.reply.Events.{Events as EventsData}
use Rattle.call_types.specs.declared.reply.Reply.TheVariants.{Events}
use Rattle.call_types.specs.declared.request.Request.TheVariants.{Watch}
use Rattle.call_types.specs.declared.setup.Setup.{Setup}
use Rattle.binder_model.specs.Told.{Telling, newest, object_of, own}
use Rattle.binder_model.specs.Watching.{most_events}
use Rattle.binder_model.specs.World.{IsHistory, world}
use Rattle.settle_slot.specs.Told.Exact.{WatchesFrom}
use Rattle.settle_slot.specs.Told.Telling.{changed_at}

-- told at this version, or later
pub record HasReached (n : ℕ) (x : Option Telling) : Type 0 where
  pub telling : Telling
  pub is : x ≡ Some telling
  pub up : n ≤ telling.version

-- the seat was told of the key since it was changed last
abbrev pub Knows : Setup → List Entry → ℕ → Key → Type 0
Knows setup past seat key = HasReached (changed_at key (world setup past).log) (newest (own seat past) key)

-- the seat knows each key of the kind
abbrev pub KnowsKind : Setup → List Entry → ℕ → Kind → Type 0
KnowsKind setup past seat kind = (key : Key) → key.kind ≡ kind → Knows setup past seat key

-- what is known is what stands
abbrev pub KnownIsExact : Type 0
KnownIsExact = (setup : Setup) (past : List Entry) (seat : ℕ) (key : Key) → IsHistory setup past → Knows setup past seat key
    → object_of (newest (own seat past) key) ≡ row_at key (world setup past).store.rows

-- a call of the seat that it was told leaves what it knows
abbrev pub KnowledgeStays : Type 0
KnowledgeStays = (setup : Setup) (e : Entry) (past : List Entry) (seat : ℕ) (kind : Kind) → IsHistory setup (e ∷ past) → e.seat ≡ seat
    → e.told ≡ true → KnowsKind setup past seat kind → KnowsKind setup (e ∷ past) seat kind

-- a watch that started where it may, and whose answer was not full, makes the kind known
abbrev pub WatchesMakeKnown : Type 0
WatchesMakeKnown =
    (setup : Setup) (e : Entry) (past : List Entry) (seat : ℕ) (kind : Kind) (from : ℕ) (events : EventsData) → IsHistory setup (e ∷ past)
    → WatchesFrom kind (own seat (e ∷ past)) → e.seat ≡ seat → e.told ≡ true
    → e.request ≡ Watch kind from → e.reply ≡ Events events → (length events.events == most_events) ≡ false → KnowsKind setup (e ∷ past) seat kind
