-- Whose place a written object takes: none, as a new object, or that of an older version of it.
-- A choice of this project, as the definitions are; their sources stand in `binder_model`.
use Rattle.std.specs.Prelude.{◌≡◌, ◌⊎◌, ◌+◌, true, Some, None}
use Rattle.kube_objects.specs.declared.objects.Object.{Object}
use Rattle.kube_objects.specs.Keys.{meta_of, key_of, row_at}
use Rattle.kube_objects.specs.Bindings.{is_deleting}
use Rattle.kube_parts.specs.Uids.{uid_of_serial}
use Rattle.binder_model.specs.Store.{State}
use Rattle.model_laws.specs.Histories.{NamesOnce}
use Rattle.std.specs.Prelude.{ℕ, List, Option}
use Rattle.call_types.specs.declared.request.SeatKind.{SeatKind}
use Rattle.call_types.specs.declared.request.Request.{Request}
use Rattle.safety_law.specs.Invariant.Writes.{WriteOf}

-- the object was created by this write: its key was free, and its UID and version are new
pub record IsFirst (s : State) (o : Object) : Type 0 where
  pub free : row_at (key_of o) s.rows ≡ None
  pub uid : (meta_of o).uid ≡ Some (uid_of_serial (s.version + 1))
  pub version : (meta_of o).version ≡ s.version + 1

-- the same object later: UID and, once given, the volume's name stay, and so does a deletion
pub record Keeps (old new : Object) : Type 0 where
  pub uid : (meta_of new).uid ≡ (meta_of old).uid
  pub named : NamesOnce old new
  pub deleting : is_deleting (meta_of old) ≡ true → is_deleting (meta_of new) ≡ true

-- the object is what an older one became by this write
pub record IsNext (s : State) (old o : Object) : Type 0 where
  pub there : row_at (key_of o) s.rows ≡ Some old
  pub key : key_of o ≡ key_of old
  pub keeps : Keeps old o
  pub version : (meta_of o).version ≡ s.version + 1

-- some older object became it
pub record HasOld (s : State) (o : Object) : Type 0 where
  pub old : Object
  pub next : IsNext s old o

-- an object that was written was created, or was another before
abbrev pub Whence : State → Object → Type 0
Whence s o = IsFirst s o ⊎ HasOld s o

-- each write gives a first version of an object, or the next one of an object that stands
abbrev pub WritesFollow : Type 0
WritesFollow =
    (s : State) (kind : SeatKind) (moment : List ℕ) (stale : Option ℕ) (request : Request) (o : Object)
    → WriteOf s kind moment stale request o → Whence s o
