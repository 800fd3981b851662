-- What is safe in a world, and at each point of a history: the binding promise.
-- A choice of this project; the words are those of the Kubernetes documentation, "Persistent Volumes".
use Rattle.std.specs.Prelude.{◌≡◌, ◌⊎◌, ◌&&◌, Bool, true, false, List, [], ◌∷◌, Option, Some, None, is_some, ⊤}
use Rattle.std.specs.List.{list_any}
use Rattle.kube_parts.specs.declared.uid.Uid.{Uid}
use Rattle.kube_objects.specs.declared.key.Key.{Key}
use Rattle.kube_objects.specs.declared.objects.DataId.{DataId}
use Rattle.kube_objects.specs.declared.objects.Volume.{Volume as VolumeData}
use Rattle.kube_objects.specs.declared.objects.Claim.{Claim as ClaimData}
use Rattle.kube_objects.specs.declared.objects.Object.{Object}
use Rattle.kube_objects.specs.declared.objects.Object.TheVariants.{Volume, Claim}
use Rattle.kube_objects.specs.Keys.{row_at}
use Rattle.kube_objects.specs.Bindings.{carries, is_bound, is_completed, is_ended, is_delete}
use Rattle.call_types.specs.declared.entry.Entry.{Entry}
use Rattle.call_types.specs.declared.setup.Setup.{Setup}
use Rattle.call_types.specs.declared.request.Request.{Request}
use Rattle.call_types.specs.declared.request.Request.TheVariants.{Erase}
use Rattle.call_types.specs.declared.reply.Reply.{Reply}
use Rattle.call_types.specs.declared.reply.Reply.TheVariants.{Erased}
use Rattle.binder_model.specs.Same.{same_uid}
use Rattle.binder_model.specs.Imports.{shares_uid, is_imported_as_lost}
use Rattle.binder_model.specs.Devices.{Devices}
use Rattle.binder_model.specs.World.{World, world}
use Rattle.binder_model.specs.ObjectKeys.{volume_key}
use Rattle.binder_model.specs.Told.{own, last_found}

-- this import is a claim of the UID, and comes into the world as Lost
abbrev pub is_lost_import : List Object → Option Uid → Object → Bool
is_lost_import imports uid (Claim claim) = shares_uid claim.meta.uid uid && is_imported_as_lost imports claim
is_lost_import imports uid o = false

-- an import of this UID was a claim that came into the world as Lost
abbrev pub was_imported_as_lost : Setup → Option Uid → Bool
was_imported_as_lost setup uid = list_any (is_lost_import setup.imports uid) setup.imports

-- the volume that the claim names is in the store, carries it and is Bound
pub record IsBoundTo (rows : List Object) (claim : ClaimData) : Type 0 where
  pub volume : VolumeData
  pub there : row_at (volume_key claim.volume_name) rows ≡ Some (Volume volume)
  pub carries : carries volume claim ≡ true
  pub bound : is_bound volume.phase ≡ true

-- now, or at an earlier point of the history
abbrev pub WasBoundTo : Setup → List Entry → ClaimData → Type 0
WasBoundTo setup [] claim = IsBoundTo (world setup []).store.rows claim
WasBoundTo setup (e ∷ past) claim = IsBoundTo (world setup (e ∷ past)).store.rows claim ⊎ WasBoundTo setup past claim

-- the claim is completed, and if it was imported as Lost, it was bound to its volume since: the promise speaks of it
pub record Counts (setup : Setup) (past : List Entry) (claim : ClaimData) : Type 0 where
  pub completed : is_completed claim ≡ true
  pub found : was_imported_as_lost setup claim.meta.uid ≡ true → WasBoundTo setup past claim

-- each claim that counts names a Bound volume that carries it
abbrev pub CountedAreBound : Setup → List Entry → Type 0
CountedAreBound setup past =
    (key : Key) (claim : ClaimData) → row_at key (world setup past).store.rows ≡ Some (Claim claim)
    → Counts setup past claim → IsBoundTo (world setup past).store.rows claim

-- no two claims that count name one volume
abbrev pub CountedAreApart : Setup → List Entry → Type 0
CountedAreApart setup past =
    (key other_key : Key) (claim other : ClaimData)
    → row_at key (world setup past).store.rows ≡ Some (Claim claim) → row_at other_key (world setup past).store.rows ≡ Some (Claim other)
    → Counts setup past claim → Counts setup past other → claim.volume_name ≡ other.volume_name → key ≡ other_key

-- the bindings that stand after these entries
pub record AreBindings (setup : Setup) (past : List Entry) : Type 0 where
  pub bound : CountedAreBound setup past
  pub apart : CountedAreApart setup past

-- no volume that was Bound just before has left
abbrev pub KeepsBound : List Object → List Object → Type 0
KeepsBound old new = (key : Key) (volume : VolumeData) → row_at key old ≡ Some (Volume volume) → is_bound volume.phase ≡ true → is_some (row_at key new) ≡ true

-- there is a UID, and some node has it among the claims of a mounted pod
abbrev pub is_uid_mounted : Devices → Option Uid → Bool
is_uid_mounted d None = false
is_uid_mounted d (Some uid) = list_any (λ m. list_any (same_uid uid) m.row.claims) d.mounts

-- some node's mounts have the claim's UID
abbrev pub is_mounted : Devices → ClaimData → Bool
is_mounted d claim = is_uid_mounted d claim.meta.uid

-- no claim that was mounted just before has left
abbrev pub KeepsMounted : World → List Object → Type 0
KeepsMounted old new =
    (key : Key) (claim : ClaimData) → row_at key old.store.rows ≡ Some (Claim claim) → is_mounted old.devices claim ≡ true
    → is_some (row_at key new) ≡ true

-- the volume is ended, with policy Delete
pub record IsEndedForDelete (volume : VolumeData) : Type 0 where
  pub ended : is_ended volume.phase ≡ true
  pub policy : is_delete volume.policy ≡ true

-- the data that were erased are those of a volume that the seat had read, and that is ended, with policy Delete, or has left
pub record ErasesEnded (rows : List Object) (mine : List Entry) (id : DataId) : Type 0 where
  pub volume : VolumeData
  pub last : last_found id mine ≡ Some volume
  pub uid : Uid
  pub known : volume.meta.uid ≡ Some uid
  pub since : (key : Key) (now : VolumeData) → row_at key rows ≡ Some (Volume now) → now.meta.uid ≡ Some uid → IsEndedForDelete now

-- an Erase that was answered, whether or not the back end had the data
abbrev pub ErasesWell : List Object → List Entry → Request → Reply → Type 0
ErasesWell rows mine (Erase id) (Erased removed) = ErasesEnded rows mine id
ErasesWell rows mine request reply = ⊤

-- what is safe in one step of a history
pub record IsSafeStep (setup : Setup) (e : Entry) (past : List Entry) : Type 0 where
  pub bindings : AreBindings setup (e ∷ past)
  pub volumes : KeepsBound (world setup past).store.rows (world setup (e ∷ past)).store.rows
  pub claims : KeepsMounted (world setup past) (world setup (e ∷ past)).store.rows
  pub erased : ErasesWell (world setup past).store.rows (own e.seat past) e.request e.reply

-- safe at every point: the claims that count have Bound volumes of their own, no Bound volume and no mounted claim has
-- left, and data were erased only for ended volumes with policy Delete
abbrev pub Safe : Setup → List Entry → Type 0
Safe setup [] = AreBindings setup []
Safe setup (e ∷ past) = IsSafeStep setup e past × Safe setup past
