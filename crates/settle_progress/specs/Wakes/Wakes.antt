-- A slot that begins with something under way: the key of the task is marked at the wake, and waits once the task has ended.
-- Source: client-go, util/workqueue, `Add` and `Done`: a key in processing that is added again is queued when it is done.
use Rattle.std.specs.Prelude.{ℕ, ◌≡◌, ◌⊎◌, true, false, List, Some}
use Rattle.kube_objects.specs.declared.key.Key.{Key}
use Rattle.kube_objects.specs.declared.objects.Object.{Object}
use Rattle.kube_objects.specs.Keys.{row_at}
use Rattle.call_types.specs.declared.entry.Entry.{Entry}
use Rattle.call_types.specs.declared.setup.Setup.{Setup}
use Rattle.binder_model.specs.Reading.{follows}
use Rattle.binder_model.specs.World.{IsHistory, world}
use Rattle.sync_queue.specs.Work.{Work, mark_of}
use Rattle.worker_core.specs.Absorbs.{woken}
use Rattle.worker_core.specs.Roles.{IsBuiltKind}
use Rattle.worker_core.specs.States.{ActorState, waits}
use Rattle.actor_rounds.specs.Rounds.{Lets, Runs}
use Rattle.settle_writes.specs.Writes.Lasting.{HasLasting}
use Rattle.settle_alike.specs.Alike.Alike.{AreAlike}
use Rattle.settle_slot.specs.Slot.Slots.{ActsOn}

-- the key waits, or it is in work and was added again since
abbrev pub ComesAgain : Key → Work → Type 0
ComesAgain key w = (waits key w ≡ true) ⊎ (mark_of key w.taken ≡ Some true)

-- wherever an object of a kind that the actor follows stands, its key is decided in a slot that ends idle: it is cached, or a list or
-- a watch tells it, whatever is under way. So where the actor acts on the key the slot has an entry that lasts
abbrev pub KeysAreDecided : Type 0
KeysAreDecided =
    (setup : Setup) (lets : Lets) (seat : ℕ) (start : List Entry) (key : Key) (o : Object) (old after : ActorState) (h past : List Entry)
    (b left : ℕ) → IsBuiltKind old.role.kind → IsHistory setup past
    → AreAlike (world setup start) (world setup h) → Runs lets seat after past left true (woken old) h b → after.memory.stale ≡ false
    → ActsOn setup lets seat old.role start key → follows old.role.kind key.kind ≡ true
    → row_at key (world setup start).store.rows ≡ Some o → HasLasting setup h past
