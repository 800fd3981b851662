-- What the answer to a call says of the store, and what a refusal says of the devices.
-- A choice of this project, as the definitions are; their sources stand in `binder_model`.
use Rattle.std.specs.Prelude.{◌≡◌, ◌≢◌, ◌⊎◌, ◌+◌, Bool, true, false, Option, Some, None}
use Rattle.kube_parts.specs.declared.uid.Uid.{Uid}
use Rattle.kube_objects.specs.declared.key.Key.{Key}
use Rattle.kube_objects.specs.declared.objects.Object.{Object}
use Rattle.kube_objects.specs.Keys.{AreRows, meta_of, key_of, row_at}
use Rattle.kube_objects.specs.Bindings.{is_deleting}
use Rattle.call_types.specs.declared.setup.Setup.{Setup}
use Rattle.call_types.specs.declared.request.SeatKind.{SeatKind}
use Rattle.call_types.specs.declared.request.Request.{Request}
use Rattle.call_types.specs.declared.request.Request.TheVariants.{Delete}
use Rattle.call_types.specs.declared.reply.Refusal.{Refusal}
use Rattle.call_types.specs.declared.reply.Refusal.TheVariants.{BackFault, Exhausted}
use Rattle.call_types.specs.declared.reply.Reply.{Reply}
use Rattle.call_types.specs.declared.reply.Reply.TheVariants.{Done, Left, Refused}
use Rattle.binder_model.specs.World.{World, effect, reply_to, world_after}

-- the answer is that the object was written, or left
abbrev pub TellsWrite : Reply → Object → Type 0
TellsWrite reply o = (reply ≡ Done o) ⊎ (reply ≡ Left o)

-- a write leaves every other key alone
abbrev pub WritesLeaveOthers : Type 0
WritesLeaveOthers =
    (setup : Setup) (w : World) (kind : SeatKind) (request : Request) (o : Object) (key : Key)
    → TellsWrite (reply_to (effect setup w kind request)) o → key_of o ≢ key
    → row_at key (world_after w (effect setup w kind request)).store.rows ≡ row_at key w.store.rows

-- what Done tells stands after it
abbrev pub DoneStands : Type 0
DoneStands =
    (setup : Setup) (w : World) (kind : SeatKind) (request : Request) (o : Object)
    → reply_to (effect setup w kind request) ≡ Done o
    → row_at (key_of o) (world_after w (effect setup w kind request)).store.rows ≡ Some o

-- what Left tells is gone after it
abbrev pub LeftIsGone : Type 0
LeftIsGone =
    (setup : Setup) (w : World) (kind : SeatKind) (request : Request) (o : Object)
    → AreRows w.store.rows → reply_to (effect setup w kind request) ≡ Left o
    → row_at (key_of o) (world_after w (effect setup w kind request)).store.rows ≡ None

-- a delete of an object that is deleting already
pub record IsSecondDelete (w : World) (request : Request) (o : Object) : Type 0 where
  pub key : Key
  pub given : Option Uid
  pub asked : request ≡ Delete key given
  pub there : row_at key w.store.rows ≡ Some o
  pub deleting : is_deleting (meta_of o) ≡ true

-- a Done that writes nothing is the second delete
abbrev pub DoneWritesOrDeletesAgain : Type 0
DoneWritesOrDeletesAgain =
    (setup : Setup) (w : World) (kind : SeatKind) (request : Request) (o : Object)
    → reply_to (effect setup w kind request) ≡ Done o
    → (world_after w (effect setup w kind request)).store.version ≡ w.store.version
    → IsSecondDelete w request o

-- the refusals of the back end
abbrev pub is_of_back_end : Refusal → Bool
is_of_back_end (BackFault planned) = true
is_of_back_end (Exhausted free) = true
is_of_back_end refusal = false

-- a refusal of the back end has used up a call number
pub record IsCalled (old new : World) (refusal : Refusal) : Type 0 where
  pub back_end : is_of_back_end refusal ≡ true
  pub counted : new.devices.calls ≡ old.devices.calls + 1

-- a refusal raises the device calls only as BackFault or Exhausted, and by one
abbrev pub OnlyTheBackEndCounts : Type 0
OnlyTheBackEndCounts =
    (setup : Setup) (w : World) (kind : SeatKind) (request : Request) (refusal : Refusal)
    → reply_to (effect setup w kind request) ≡ Refused refusal
    → ((world_after w (effect setup w kind request)).devices ≡ w.devices) ⊎ IsCalled w (world_after w (effect setup w kind request)) refusal
