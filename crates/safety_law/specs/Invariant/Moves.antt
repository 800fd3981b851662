-- How one call moves the store, whatever the call: what it does at each key, and to the version.
-- A choice of this project, as the definitions are; their sources stand in `binder_model`.
use Rattle.std.specs.Prelude.{◌≡◌, ◌⊎◌, ◌+◌, ◌≤◌, Option, Some, None}
use Rattle.kube_objects.specs.declared.key.Key.{Key}
use Rattle.kube_objects.specs.declared.objects.Object.{Object}
use Rattle.kube_objects.specs.Keys.{AreRows, key_of, row_at}
use Rattle.binder_model.specs.Answers.{Stores, Removes}
use Rattle.binder_model.specs.World.{World, Effect, OnStore, effect, world_after}
use Rattle.safety_law.specs.Invariant.Writes.{IsLeaving}
use Rattle.call_types.specs.declared.setup.Setup.{Setup}
use Rattle.call_types.specs.declared.request.SeatKind.{SeatKind}
use Rattle.call_types.specs.declared.request.Request.{Request}
use Rattle.safety_law.specs.Invariant.Writes.{Writes}

-- the object that an effect writes, where one is written
abbrev pub written_by : Effect → Option Object
written_by (OnStore (Stores change o)) = Some o
written_by (OnStore (Removes o)) = Some o
written_by x = None

-- the object was written by this effect
pub record IsWritten (w : World) (x : Effect) (W : Object → Type 0) (o : Object) : Type 0 where
  pub is : written_by x ≡ Some o
  pub write : W o
  pub counted : (world_after w x).store.version ≡ w.store.version + 1

-- the key is empty after this effect: the last object there was written, and left
pub record HasLeft (w : World) (request : Request) (x : Effect) (W : Object → Type 0) (k : Key) : Type 0 where
  pub last : Object
  pub written : IsWritten w x W last
  pub key : key_of last ≡ k
  pub leaving : IsLeaving request last
  pub removes : x ≡ OnStore (Removes last)

-- what stands at a key stood there before or was written; what stands there no more has left; the version does not fall
pub record Moves (w : World) (request : Request) (x : Effect) (W : Object → Type 0) : Type 0 where
  pub row : (k : Key) (o : Object) → row_at k (world_after w x).store.rows ≡ Some o → (row_at k w.store.rows ≡ Some o) ⊎ IsWritten w x W o
  pub left : (k : Key) (o : Object) → row_at k w.store.rows ≡ Some o → row_at k (world_after w x).store.rows ≡ None → HasLeft w request x W k
  pub rises : w.store.version ≤ (world_after w x).store.version
  pub order : AreRows (world_after w x).store.rows

-- each call moves the store by one write that was asked and tested, or not at all
abbrev pub CallsMoveTheStore : Type 0
CallsMoveTheStore =
    (setup : Setup) (w : World) (kind : SeatKind) (request : Request)
    → AreRows w.store.rows → Moves w request (effect setup w kind request) (Writes w kind request)
