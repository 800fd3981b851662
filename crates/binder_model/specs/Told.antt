-- What a seat was told. Its own entries stand newest first; only those whose answer reached it tell anything.
-- A choice of this project: this is the evidence on which a controller may act, whatever its caches and queues are.
use Rattle.std.specs.Prelude.{ℕ, ◌≡◌, ◌⊎◌, ◌==◌, nat_lt, Bool, true, false, ◌&&◌, List, [], ◌∷◌, ◌++◌, Option, Some, None, bytes_eq, if◌then◌else◌}
use Rattle.kube_objects.specs.declared.key.Key.{Key}
use Rattle.kube_objects.specs.declared.objects.DataId.{DataId}
use Rattle.kube_objects.specs.declared.objects.Volume.{Volume as VolumeData}
use Rattle.kube_objects.specs.declared.objects.Claim.{Claim as ClaimData}
use Rattle.kube_objects.specs.declared.objects.Pod.{Pod as PodData}
use Rattle.kube_objects.specs.declared.objects.Object.{Object}
use Rattle.kube_objects.specs.declared.objects.Object.TheVariants.{Volume, Claim, Pod}
use Rattle.kube_objects.specs.Keys.{meta_of, key_of, kind_index, row_at, same_key}
use Rattle.kube_objects.specs.Sources.{data_id_of}
use Rattle.call_types.specs.declared.entry.Entry.{Entry}
use Rattle.call_types.specs.declared.request.Request.{Request}
use Rattle.call_types.specs.declared.request.Request.TheVariants as requests
use Rattle.call_types.specs.declared.reply.Change.TheVariants as changes
use Rattle.call_types.specs.declared.reply.Change.{Change}
use Rattle.call_types.specs.declared.reply.Event.{Event}
use Rattle.call_types.specs.declared.reply.Refusal.TheVariants.{NotFound}
use Rattle.call_types.specs.declared.reply.Reply.{Reply}
use Rattle.call_types.specs.declared.reply.Reply.TheVariants.{Done, Left, Found, Listed, Events, Refused}
use Rattle.binder_model.specs.Devices.{same_id}

-- the entries of one seat
abbrev pub own : ℕ → List Entry → List Entry
own seat [] = []
own seat (e ∷ past) = if e.seat == seat then e ∷ own seat past else own seat past

-- P holds of some element
abbrev pub SomeOf : {X : Type 0} → (X → Type 0) → List X → Type 0
SomeOf P [] = ⊥
SomeOf P (x ∷ xs) = P x ⊎ SomeOf P xs

-- the first of two values that may be absent
abbrev pub first_some : {X : Type 0} → Option X → Option X → Option X
first_some (Some a) b = Some a
first_some None b = b

-- told an object

-- the object of an event; that of a deletion is gone and is not told as an object
abbrev pub objects_of_event : Change → Object → List Object
objects_of_event changes.Deleted o = []
objects_of_event _ o = o ∷ []

-- the objects of all these events, in their order
abbrev pub objects_of_events : List Event → List Object
objects_of_events [] = []
objects_of_events (e ∷ es) = objects_of_event e.change e.object ++ objects_of_events es

-- the objects that an answer tells
abbrev pub objects_in : Reply → List Object
objects_in (Done o) = o ∷ []
objects_in (Found o) = o ∷ []
objects_in (Listed items version) = items
objects_in (Events events) = objects_of_events events.events
objects_in _ = []

-- an object of which P holds stands in an answer that the seat was told
abbrev pub TellsObject : (Object → Type 0) → Entry → Type 0
TellsObject P e = (e.told ≡ true) × SomeOf P (objects_in e.reply)

-- a seat with these entries was told an object of which P holds
abbrev pub ToldObject : (Object → Type 0) → List Entry → Type 0
ToldObject P mine = SomeOf (TellsObject P) mine

-- the object is a volume of which P holds
abbrev pub IsVolumeWith : (VolumeData → Type 0) → Object → Type 0
IsVolumeWith P (Volume v) = P v
IsVolumeWith P _ = ⊥

-- the object is a claim of which P holds
abbrev pub IsClaimWith : (ClaimData → Type 0) → Object → Type 0
IsClaimWith P (Claim c) = P c
IsClaimWith P _ = ⊥

-- the object is a pod of which P holds
abbrev pub IsPodWith : (PodData → Type 0) → Object → Type 0
IsPodWith P (Pod p) = P p
IsPodWith P _ = ⊥

-- the seat was told a volume of which P holds, in whatever version
abbrev pub ToldVolume : (VolumeData → Type 0) → List Entry → Type 0
ToldVolume P mine = ToldObject (IsVolumeWith P) mine

-- the seat was told a claim of which P holds, in whatever version
abbrev pub ToldClaim : (ClaimData → Type 0) → List Entry → Type 0
ToldClaim P mine = ToldObject (IsClaimWith P) mine

-- the seat was told a pod of which P holds, in whatever version
abbrev pub ToldPod : (PodData → Type 0) → List Entry → Type 0
ToldPod P mine = ToldObject (IsPodWith P) mine

-- told live

-- the answer of a Get is the object, or that there is none
abbrev pub IsLiveAnswer : Reply → (Option Object → Type 0) → Type 0
IsLiveAnswer (Found o) P = P (Some o)
IsLiveAnswer (Refused NotFound) P = P None
IsLiveAnswer _ P = ⊥

-- the entry is a Get of the key, whose answer told that P holds of what stood there
abbrev pub TellsLive : Key → (Option Object → Type 0) → Entry → Type 0
TellsLive key P e = (e.told ≡ true) × (e.request ≡ requests.Get key) × IsLiveAnswer e.reply P

-- the volume with this data id that a told Get found
abbrev pub found_over : DataId → Bool → Reply → Option VolumeData
found_over id true (Found (Volume v)) = if same_id (data_id_of v.source) id then Some v else None
found_over id told reply = None

-- the last such volume
abbrev pub last_found : DataId → List Entry → Option VolumeData
last_found id [] = None
last_found id (e ∷ mine) = first_some (found_over id e.told e.reply) (last_found id mine)

-- after: an entry of which Q holds, and before it entries of which P holds
abbrev pub After : (List Entry → Type 0) → (Entry → Type 0) → List Entry → Type 0
After P Q [] = ⊥
After P Q (e ∷ mine) = (Q e × P mine) ⊎ After P Q mine

-- newest told

-- what was told of a key: the object or its absence, at a version
pub record Telling : Type 0 where
  pub version : ℕ
  pub object : Option Object

-- the object is there, at its own version
abbrev pub presence : Object → Telling
presence o = record { version = (meta_of o).version; object = Some o }

-- the one with the greater version
abbrev pub later : Option Telling → Option Telling → Option Telling
later None b = b
later (Some a) None = Some a
later (Some a) (Some b) = if nat_lt a.version b.version then Some b else Some a

-- an event tells the object at the event's version, that of a deletion its absence
abbrev pub of_event : Change → Object → ℕ → Telling
of_event changes.Deleted o version = record { version = version; object = None }
of_event _ o version = record { version = version; object = Some o }

-- what the events tell of the key: the latest of those that are of it
abbrev pub told_by_events : List Event → Key → Option Telling
told_by_events [] key = None
told_by_events (e ∷ es) key =
    later (if same_key (key_of e.object) key then Some (of_event e.change e.object e.version) else None) (told_by_events es key)

-- the object that stands under the key, or its absence
abbrev pub listing : ℕ → Option Object → Telling
listing version (Some o) = presence o
listing version None = record { version = version; object = None }

-- the list is one of the key's kind, and of all namespaces or of the key's
abbrev pub lists_key : Request → Key → Bool
lists_key (requests.List kind None) key = kind_index kind == kind_index key.kind
lists_key (requests.List kind (Some namespace)) key = kind_index kind == kind_index key.kind && bytes_eq namespace key.namespace
lists_key _ key = false

-- what an answer tells of a key. A list tells the absence, at its version, of what it lacks
abbrev pub tells_of : Request → Reply → Key → Option Telling
tells_of request (Done o) key = if same_key (key_of o) key then Some (presence o) else None
tells_of request (Left o) key = if same_key (key_of o) key then Some (record { version = (meta_of o).version; object = None }) else None
tells_of request (Listed items version) key = if lists_key request key then Some (listing version (row_at key items)) else None
tells_of request (Events events) key = told_by_events events.events key
tells_of request _ key = None

-- what the entry told the seat of the key, if its answer reached it
abbrev pub told_of : Entry → Key → Option Telling
told_of e key = if e.told then tells_of e.request e.reply key else None

-- the object or absence with the greatest version that was told of the key
abbrev pub newest : List Entry → Key → Option Telling
newest [] key = None
newest (e ∷ mine) key = later (told_of e key) (newest mine key)

-- the object that was told, if one was
abbrev pub object_of : Option Telling → Option Object
object_of None = None
object_of (Some t) = t.object

-- the newest told of the key is this object
abbrev pub IsNewest : List Entry → Key → Object → Type 0
IsNewest mine key o = object_of (newest mine key) ≡ Some o

-- something was told, and it is an absence
abbrev pub IsAbsenceOf : Option Telling → Type 0
IsAbsenceOf None = ⊥
IsAbsenceOf (Some t) = t.object ≡ None

-- the newest told of the key is its absence. Where nothing was told, no absence was told
abbrev pub IsNewestAbsent : List Entry → Key → Type 0
IsNewestAbsent mine key = IsAbsenceOf (newest mine key)
