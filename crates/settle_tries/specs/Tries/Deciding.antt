-- A slot that ends idle decides each key that the actor had cached when it was woken, whatever is written in it before; and what it begins for the
-- key, where it acts on it there, makes a call that lasts.
-- A choice of this project, after the informers and work queues of client-go.
use Rattle.std.specs.Prelude.{ℕ, ◌≡◌, ◌++◌, true, false, List, ◌∷◌, Some, None}
use Rattle.kube_objects.specs.declared.key.Key.{Key}
use Rattle.kube_objects.specs.declared.objects.Object.{Object}
use Rattle.kube_objects.specs.Keys.{row_at}
use Rattle.call_types.specs.declared.entry.Entry.{Entry}
use Rattle.call_types.specs.declared.request.SeatKind.{SeatKind}
use Rattle.call_types.specs.declared.setup.Setup.{Setup}
use Rattle.binder_model.specs.Reading.{follows}
use Rattle.binder_model.specs.World.{IsHistory, world}
use Rattle.informer_cache.specs.All.{all_objects}
use Rattle.worker_core.specs.declared.role.Role.{Role}
use Rattle.worker_core.specs.declared.task.Under.{Under}
use Rattle.worker_core.specs.Absorbs.{woken}
use Rattle.worker_core.specs.Roles.{IsBuiltKind}
use Rattle.worker_core.specs.States.{ActorState}
use Rattle.worker_core.specs.Tasks.{GivesCall}
use Rattle.actor_rounds.specs.Rounds.{Lets, Runs}
use Rattle.settle_writes.specs.Writes.Lasting.{Lasts}
use Rattle.settle_slot.specs.Slot.Slots.{ActsOn, IsDecisionPoint, own_entry}
use Rattle.settle_slot.specs.Slot.Would.{Leads}

-- a point of a slot: some entries came before it, and some after it
pub record IsWithin (h x past : List Entry) : Type 0 where
  pub newer : List Entry
  pub older : List Entry
  pub ahead : past ≡ newer ++ x
  pub behind : x ≡ older ++ h

-- what is under way makes a call that lasts, at once or after calls of its own
pub record Reaches (setup : Setup) (seat : ℕ) (kind : SeatKind) (past h : List Entry) (u : Under) : Type 0 where
  pub at : List Entry
  pub last : Under
  pub newer : List Entry
  pub leads : Leads setup seat kind h u at last
  pub lasts : Lasts setup (world setup at) kind last.call
  pub are : past ≡ newer ++ (own_entry setup seat kind at last.call ∷ at)

-- at a point of the slot the actor, which sees the store there, begins for the key what makes a call that lasts
pub record IsActedOn (setup : Setup) (seat : ℕ) (role : Role) (key : Key) (h past : List Entry) : Type 0 where
  pub state : ActorState
  pub point : List Entry
  pub within : IsWithin h point past
  pub sees : IsDecisionPoint setup seat role point state point
  pub under : Under
  pub own : under.key ≡ key
  pub gives : GivesCall state.role state.memory (all_objects state.caches) under
  pub reaches : Reaches setup seat role.kind past point under

-- so where the actor acts on the key at each point of the slot, by what stands there
abbrev pub CachedAreDecided : Type 0
CachedAreDecided =
    (setup : Setup) (lets : Lets) (seat : ℕ) (key : Key) (o : Object) (old after : ActorState) (h past : List Entry) (b left : ℕ)
    → IsBuiltKind old.role.kind → IsHistory setup past → old.under ≡ None → follows old.role.kind key.kind ≡ true
    → row_at key (all_objects old.caches) ≡ Some o → Runs lets seat after past left true (woken old) h b → after.memory.stale ≡ false
    → ((x : List Entry) → IsWithin h x past → ActsOn setup lets seat old.role x key)
    → IsActedOn setup seat old.role key h past
