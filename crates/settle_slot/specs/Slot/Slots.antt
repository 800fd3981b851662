-- A slot: one actor is woken, and run until it is idle while nobody else calls. After its first pass it sees the store as it is,
-- and each key that waits is decided so.
-- A choice of this project, after the informers and work queues of client-go.
use Rattle.std.specs.Prelude.{ℕ, ◌≡◌, ◌≢◌, ◌<◌, Bool, true, false, List, ◌∷◌, Some, None}
use Rattle.kube_objects.specs.declared.key.Key.{Key}
use Rattle.kube_parts.specs.declared.parts.Kind.{Kind}
use Rattle.kube_objects.specs.Keys.{row_at}
use Rattle.call_types.specs.declared.entry.Entry.{Entry}
use Rattle.call_types.specs.declared.request.Request.{Request}
use Rattle.call_types.specs.declared.request.SeatKind.{SeatKind}
use Rattle.call_types.specs.declared.request.SeatKind.TheVariants as seats
use Rattle.call_types.specs.declared.setup.Setup.{Setup}
use Rattle.binder_model.specs.Reading.{follows}
use Rattle.binder_model.specs.World.{IsHistory, effect, reply_to, world}
use Rattle.informer_cache.specs.All.{all_objects}
use Rattle.worker_core.specs.declared.turn.Pass.{Pass}
use Rattle.worker_core.specs.declared.role.Role.{Role}
use Rattle.worker_core.specs.declared.task.Under.{Under}
use Rattle.worker_core.specs.declared.task.First.{First}
use Rattle.worker_core.specs.Absorbs.{woken}
use Rattle.worker_core.specs.Roles.{IsBuiltKind, kind_in_order}
use Rattle.worker_core.specs.States.{ActorState, waits}
use Rattle.worker_core.specs.Tasks.{GivesCall, GivesNone, under_after}
use Rattle.worker_core.specs.Turns.{passing}
use Rattle.actor_rounds.specs.Rounds.{IsReady, Lets, Runs}
use Rattle.settle_slot.specs.Told.Knowing.{KnowsKind}
use Rattle.settle_writes.specs.Writes.Lasting.{HasLasting, Lasts}
use Rattle.settle_alike.specs.Alike.Alike.{AreAlike}

-- the actor with its pass before it, as a slot begins and as it goes on once what was under way has ended
abbrev pub begun : ActorState → ActorState
begun s = record s { pass = record { behind = 0; event = false } }

-- of each kind that the actor follows the rows of its caches are the store's
abbrev pub SeesStore : Setup → ActorState → List Entry → Type 0
SeesStore setup s h = (key : Key) → follows s.role.kind key.kind ≡ true → row_at key (all_objects s.caches) ≡ row_at key (world setup h).store.rows

-- the seat knows the kinds that the pass has behind it
abbrev pub KnowsBehind : Setup → ℕ → Role → Pass → List Entry → Type 0
KnowsBehind setup seat role pass h = (place : ℕ) (kind : Kind) → place < pass.behind → kind_in_order role place ≡ Some kind → KnowsKind setup h seat kind

-- wherever a slot comes to, its budget spent or not: past its pass the actor sees the store. So its decisions rest on the store
abbrev pub PassedSeeTheStore : Type 0
PassedSeeTheStore =
    (setup : Setup) (lets : Lets) (seat : ℕ) (old after : ActorState) (h past : List Entry) (b left : ℕ) (idle : Bool) → IsBuiltKind old.role.kind → IsHistory setup past
    → Runs lets seat after past left idle (woken old) h b → IsReady seat after past → passing after ≡ None → SeesStore setup after past

-- a point of a slot at which the actor decides: it is ready, sees the store, and the world is like that of the start
pub record IsDecisionPoint (setup : Setup) (seat : ℕ) (role : Role) (start : List Entry) (s : ActorState) (h : List Entry) : Type 0 where
  pub role_is : s.role ≡ role
  pub history : IsHistory setup h
  pub alike : AreAlike (world setup start) (world setup h)
  pub ready : IsReady seat s h
  pub sees : SeesStore setup s h

-- the entry of a call on this world, whose answer the seat was told
abbrev pub own_entry : Setup → ℕ → SeatKind → List Entry → Request → Entry
own_entry setup seat kind h request = record { seat = seat; kind = kind; request = request; reply = reply_to (effect setup (world setup h) kind request); told = true }

-- what is under way makes a call that reaches the world and lasts, now or after calls that reach it
pub data WillLast (setup : Setup) (lets : Lets) (seat : ℕ) (kind : SeatKind) : List Entry → Under → Type 0 where
  Now : {h : List Entry} {u : Under} → lets h u.call ≡ true → Lasts setup (world setup h) kind u.call → WillLast setup lets seat kind h u
  Then : {h : List Entry} {u : Under} → lets h u.call ≡ true → (next : Under) → under_after u (reply_to (effect setup (world setup h) kind u.call)) ≡ Some next
      → WillLast setup lets seat kind (own_entry setup seat kind h u.call ∷ h) next → WillLast setup lets seat kind h u

-- wherever the key is decided in the slot, the decision begins what will make a call that lasts
pub record ActsOn (setup : Setup) (lets : Lets) (seat : ℕ) (role : Role) (start : List Entry) (key : Key) : Type 0 where
  pub lasts : (s : ActorState) (h : List Entry) (u : Under) → IsDecisionPoint setup seat role start s h → u.key ≡ key
      → GivesCall s.role s.memory (all_objects s.caches) u → WillLast setup lets seat role.kind h u
  pub acts : (s : ActorState) (h : List Entry) (first : First) → IsDecisionPoint setup seat role start s h → GivesNone s.role s.memory (all_objects s.caches) key first → ⊥

-- a slot that ends idle, with a key waiting on which the actor acts, has an entry that lasts: in a world that is like that of
-- the start. An agent whose node was taken by another does nothing, and is no such actor
abbrev pub SlotsLast : Type 0
SlotsLast =
    (setup : Setup) (lets : Lets) (seat : ℕ) (start : List Entry) (key : Key) (old after : ActorState) (h past : List Entry) (b left : ℕ) → IsBuiltKind old.role.kind → IsHistory setup past
    → AreAlike (world setup start) (world setup h) → Runs lets seat after past left true (woken old) h b → after.memory.stale ≡ false
    → ActsOn setup lets seat old.role start key → waits key (woken old).work ≡ true
    → HasLasting setup h past

-- an actor that is idle at the end was not told StaleEpoch, if it is no agent
abbrev pub OthersStayAwake : Type 0
OthersStayAwake = (lets : Lets) (seat : ℕ) (s after : ActorState) (h past : List Entry) (b left : ℕ) → s.role.kind ≢ seats.Agent
    → Runs lets seat after past left true s h b → after.memory.stale ≡ false
