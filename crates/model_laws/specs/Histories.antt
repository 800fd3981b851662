-- What holds of every world of a history.
-- A choice of this project, as the definitions are; their sources stand in `binder_model`.
use Rattle.std.specs.Prelude.{◌≡◌, ◌≢◌, ◌⊎◌, List, [], ◌∷◌, ◌++◌, Option, Some, None, ⊤}
use Rattle.kube_parts.specs.declared.uid.Uid.{Uid}
use Rattle.kube_objects.specs.declared.key.Key.{Key}
use Rattle.kube_objects.specs.declared.objects.Object.{Object}
use Rattle.kube_objects.specs.declared.objects.Object.TheVariants.{Claim}
use Rattle.kube_objects.specs.Keys.{AreRows, meta_of, row_at}
use Rattle.call_types.specs.declared.entry.Entry.{Entry}
use Rattle.call_types.specs.declared.setup.Setup.{Setup}
use Rattle.call_types.specs.declared.request.SeatKind.{SeatKind}
use Rattle.call_types.specs.declared.request.Request.{Request}
use Rattle.call_types.specs.declared.reply.Change.TheVariants.{Added}
use Rattle.binder_model.specs.Answers.{Stores}
use Rattle.binder_model.specs.World.{World, Effect, OnStore, world, effect, world_after}

-- no key stands twice, and objects stand in the order of their keys
abbrev pub RowsStandInOrder : Type 0
RowsStandInOrder = (setup : Setup) (past : List Entry) → AreRows (world setup past).store.rows

-- the name of a claim's volume goes once from empty to a name
abbrev pub NamesOnce : Object → Object → Type 0
NamesOnce (Claim old) (Claim new) = (old.volume_name ≡ []) ⊎ (new.volume_name ≡ old.volume_name)
NamesOnce old new = ⊤

-- UID and creation stay, and a deletion timestamp is never unset
pub record KeepsIdentity (old new : Object) : Type 0 where
  pub uid : (meta_of new).uid ≡ (meta_of old).uid
  pub created : (meta_of new).created ≡ (meta_of old).created
  pub deleted : ((meta_of old).deleted ≡ None) ⊎ ((meta_of new).deleted ≡ (meta_of old).deleted)
  pub named : NamesOnce old new

-- an object that stands before a call and after it has kept its identity
abbrev pub CallsKeepIdentity : Type 0
CallsKeepIdentity =
    (setup : Setup) (w : World) (kind : SeatKind) (request : Request) (key : Key) (old new : Object)
    → AreRows w.store.rows
    → row_at key w.store.rows ≡ Some old
    → row_at key (world_after w (effect setup w kind request)).store.rows ≡ Some new
    → KeepsIdentity old new

-- the UID that an effect gives to a new object
abbrev pub given_by : Effect → Option Uid
given_by (OnStore (Stores Added o)) = (meta_of o).uid
given_by x = None

-- the UID that an entry gave, if it created an object
abbrev pub given_uid : Setup → Entry → List Entry → Option Uid
given_uid setup e past = given_by (effect setup (world setup past) e.kind e.request)

-- no UID is given twice
abbrev pub UidsAreGivenOnce : Type 0
UidsAreGivenOnce =
    (setup : Setup) (newer : Entry) (between : List Entry) (older : Entry) (past : List Entry) (uid : Uid)
    → given_uid setup older past ≡ Some uid
    → given_uid setup newer (between ++ older ∷ past) ≢ Some uid
