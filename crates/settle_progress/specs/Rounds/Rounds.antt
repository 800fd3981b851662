-- A round: each actor has a slot, one after the other. What acts on the world of the start acts in its slot, or an entry before it lasts.
-- A choice of this project.
use Rattle.std.specs.Prelude.{ℕ, ◌≡◌, true, false, List, Some, slice_get}
use Rattle.kube_objects.specs.declared.key.Key.{Key}
use Rattle.kube_objects.specs.declared.objects.Object.{Object}
use Rattle.kube_objects.specs.Keys.{row_at}
use Rattle.call_types.specs.declared.entry.Entry.{Entry}
use Rattle.call_types.specs.declared.setup.Setup.{Setup}
use Rattle.binder_model.specs.Reading.{follows}
use Rattle.binder_model.specs.World.{IsHistory, world}
use Rattle.worker_core.specs.Roles.{IsBuiltKind}
use Rattle.actor_rounds.specs.declared.drainers.Drainer.{Drainer}
use Rattle.actor_rounds.specs.Rounds.{IsRound, Lets}
use Rattle.settle_writes.specs.Writes.Lasting.{HasLasting}
use Rattle.settle_slot.specs.Slot.Slots.{ActsOn}

-- an actor of the round acts on an object that stands, and follows its kind; and it is not silent at the end of the round, as an
-- agent is whose node was taken by another
pub record HasActor (setup : Setup) (lets : Lets) (ds after : List Drainer) (start : List Entry) : Type 0 where
  pub place : ℕ
  pub drainer : Drainer
  pub there : slice_get ds place ≡ Some drainer
  pub built : IsBuiltKind drainer.actor.role.kind
  pub key : Key
  pub object : Object
  pub stands : row_at key (world setup start).store.rows ≡ Some object
  pub followed : follows drainer.actor.role.kind key.kind ≡ true
  pub acts : ActsOn setup lets drainer.seat drainer.actor.role start key
  pub awake : (then_ : Drainer) → slice_get after place ≡ Some then_ → then_.actor.memory.stale ≡ false

-- so a whole round with such an actor has an entry that lasts, by it or by another
abbrev pub RoundsLast : Type 0
RoundsLast =
    (setup : Setup) (lets : Lets) (ds after : List Drainer) (h past : List Entry) (b left : ℕ) → IsHistory setup past → IsRound lets past left ds h b after true → HasActor setup lets ds after h
    → HasLasting setup h past
