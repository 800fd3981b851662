-- What is still ahead at a point of a slot: writes, events that are to be told, kinds that are to be read.
-- A choice of this project.
use Rattle.std.specs.Prelude.{List, None, Option, Some, [], if◌then◌else◌, ℕ, ◌*◌, ◌+◌, ◌-◌, ◌/◌, ◌<◌, ◌∷◌, ◌≡◌, ◌≤◌}
use Rattle.binder_model.specs.Reading.{following_of}
use Rattle.binder_model.specs.Told.{SomeOf, own}
use Rattle.binder_model.specs.World.{World, world}
use Rattle.call_types.specs.declared.entry.Entry.{Entry}
use Rattle.call_types.specs.declared.reply.Event.{Event}
use Rattle.call_types.specs.declared.request.SeatKind.{SeatKind}
use Rattle.call_types.specs.declared.setup.Setup.{Setup}
use Rattle.settle_calls.specs.Tasks.Costs.{calls_for, key_cost}
use Rattle.settle_calls.specs.Events.Counts.{pending}
use Rattle.informer_cache.specs.Cache.{watch_from}
use Rattle.kube_objects.specs.Keys.{key_of}
use Rattle.kube_objects.specs.declared.key.Key.{Key}
use Rattle.kube_parts.specs.declared.parts.Kind.{Kind}
use Rattle.settle_measure.specs.Left.Measure.{total}
use Rattle.worker_core.specs.Roles.{kinds_of}
use Rattle.worker_core.specs.declared.turn.Pass.{Pass}

-- the version from which the seat may watch the kind, where it has listed it
abbrev pub from_of : ℕ → List Entry → Kind → Option ℕ
from_of seat h kind = watch_from (following_of (own seat h) kind)

-- the sum over some kinds
abbrev pub sum_over : (Kind → ℕ) → List Kind → ℕ
sum_over f [] = 0
sum_over f (k ∷ ks) = f k + sum_over f ks

-- how many calls the decision on a key may come to
abbrev pub cost_at : SeatKind → World → Key → ℕ
cost_at kind w key = key_cost kind w.store.rows key

-- the slot began at version `base`, and the store will reach `high` in it. What was written in it costs little, and all objects
-- cost no more than m, now and later
pub record Point (setup : Setup) (kind : SeatKind) (base m high : ℕ) (h : List Entry) : Type 0 where
  pub begun : base ≤ (world setup h).store.version
  pub light : (x : Event) → SomeOf (λ (y : Event). y ≡ x) (world setup h).log → base < x.version → cost_at kind (world setup h) (key_of x.object) ≤ 3
  pub heavy : total (calls_for kind) (world setup h).store.rows + 3 * (high - (world setup h).store.version) ≤ m

-- what may still be asked of a kind: the events of it that are to be told, and the lists after a watch is gone
abbrev pub kind_cost : ℕ → ℕ → World → Kind → Option ℕ → ℕ
kind_cost m high w kind None = (m + 1) + (m + 7) * ((high - w.store.version) / 513)
kind_cost m high w kind (Some from) = 9 * pending kind from w.log + (m + 7) * ((high - from) / 513)

-- of all kinds that the actor follows
abbrev pub kinds_cost : Setup → ℕ → SeatKind → ℕ → ℕ → List Entry → ℕ
kinds_cost setup seat kind m high h = sum_over (λ k. kind_cost m high (world setup h) k (from_of seat h k)) (kinds_of kind)

-- the watches of the pass, and those of the next one where it brought an event
abbrev pub pass_cost : Pass → ℕ
pass_cost p = (5 - p.behind) + (if p.event then 5 else 0)
