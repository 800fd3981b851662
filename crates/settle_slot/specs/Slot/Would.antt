-- A decision that would make a call that lasts, where its calls reach the world; and that they do.
-- A choice of this project.
use Rattle.std.specs.Prelude.{ℕ, ◌≡◌, true, List, ◌∷◌, Some}
use Rattle.kube_objects.specs.declared.key.Key.{Key}
use Rattle.call_types.specs.declared.entry.Entry.{Entry}
use Rattle.call_types.specs.declared.request.SeatKind.{SeatKind}
use Rattle.call_types.specs.declared.setup.Setup.{Setup}
use Rattle.binder_model.specs.World.{effect, reply_to, world}
use Rattle.informer_cache.specs.All.{all_objects}
use Rattle.worker_core.specs.declared.role.Role.{Role}
use Rattle.worker_core.specs.declared.task.First.{First}
use Rattle.worker_core.specs.declared.task.Under.{Under}
use Rattle.worker_core.specs.States.{ActorState}
use Rattle.worker_core.specs.Tasks.{GivesCall, GivesNone, under_after}
use Rattle.actor_rounds.specs.Rounds.{Lets}
use Rattle.settle_writes.specs.Writes.Lasting.{Lasts}
use Rattle.settle_alike.specs.Alike.Alike.{AreAlike}
use Rattle.settle_slot.specs.Slot.Slots.{ActsOn, IsDecisionPoint, own_entry}

-- what is under way makes a call that lasts, now or after calls that leave the world like that of the start
pub data WouldLast (setup : Setup) (seat : ℕ) (kind : SeatKind) (start : List Entry) : List Entry → Under → Type 0 where
  AtOnce : {h : List Entry} {u : Under} → AreAlike (world setup start) (world setup h) → Lasts setup (world setup h) kind u.call → WouldLast setup seat kind start h u
  Later : {h : List Entry} {u : Under} → AreAlike (world setup start) (world setup h) → (next : Under) → under_after u (reply_to (effect setup (world setup h) kind u.call)) ≡ Some next
      → WouldLast setup seat kind start (own_entry setup seat kind h u.call ∷ h) next → WouldLast setup seat kind start h u

-- wherever the key is decided in the slot, the decision begins what makes a call that lasts, if its calls reach the world
pub record WouldActOn (setup : Setup) (seat : ℕ) (role : Role) (start : List Entry) (key : Key) : Type 0 where
  pub lasts : (s : ActorState) (h : List Entry) (u : Under) → IsDecisionPoint setup seat role start s h → u.key ≡ key
      → GivesCall s.role s.memory (all_objects s.caches) u → WouldLast setup seat role.kind start h u
  pub acts : (s : ActorState) (h : List Entry) (first : First) → IsDecisionPoint setup seat role start s h → GivesNone s.role s.memory (all_objects s.caches) key first → ⊥

-- from what is under way to what is under way after some of its calls, each answered on this world
pub data Leads (setup : Setup) (seat : ℕ) (kind : SeatKind) : List Entry → Under → List Entry → Under → Type 0 where
  Here : {h : List Entry} {u : Under} → Leads setup seat kind h u h u
  On : {h g : List Entry} {u v : Under} (next : Under) → under_after u (reply_to (effect setup (world setup h) kind u.call)) ≡ Some next
      → Leads setup seat kind (own_entry setup seat kind h u.call ∷ h) next g v → Leads setup seat kind h u g v

-- as long as the world is like that of the start, each call of what the actor begins for the key reaches it
abbrev pub CallsPass : Setup → Lets → ℕ → Role → List Entry → Key → Type 0
CallsPass setup lets seat role start key =
    (s : ActorState) (h g : List Entry) (u v : Under) → IsDecisionPoint setup seat role start s h → u.key ≡ key
    → GivesCall s.role s.memory (all_objects s.caches) u → Leads setup seat role.kind h u g v
    → AreAlike (world setup start) (world setup g) → lets g v.call ≡ true

-- so where they do, the actor acts on the key
abbrev pub WouldActWhereCallsPass : Type 0
WouldActWhereCallsPass = (setup : Setup) (lets : Lets) (seat : ℕ) (role : Role) (start : List Entry) (key : Key)
    → CallsPass setup lets seat role start key → WouldActOn setup seat role start key → ActsOn setup lets seat role start key
