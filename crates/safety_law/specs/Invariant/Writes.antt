-- What one call comes to: a record for each verb that writes, with all that was tested before the write; how an object leaves; true answers.
-- A choice of this project, as the definitions are; their sources stand in `binder_model`.
use Rattle.std.specs.Prelude.{ℕ, ◌≡◌, ◌⊎◌, ◌+◌, Bool, true, false, List, Option, Some, None, bytes_eq, ⊤}
use Rattle.kube_parts.specs.declared.uid.Uid.{Uid}
use Rattle.kube_objects.specs.declared.key.Key.{Key}
use Rattle.kube_objects.specs.declared.objects.Pod.{Pod as PodData}
use Rattle.kube_objects.specs.declared.objects.Object.{Object}
use Rattle.kube_objects.specs.declared.objects.Object.TheVariants.{Pod}
use Rattle.kube_objects.specs.Keys.{AreRows, meta_of, key_of, row_at}
use Rattle.kube_objects.specs.Bindings.{is_deleting, is_scheduled, is_uid}
use Rattle.call_types.specs.declared.request.NewStatus.{NewStatus}
use Rattle.call_types.specs.declared.request.SeatKind.{SeatKind}
use Rattle.call_types.specs.declared.request.Request.{Request}
use Rattle.call_types.specs.declared.request.Request.TheVariants as requests
use Rattle.binder_model.specs.Store.{State, at_version, marked_object, created_object, updated_object, leaves, leaves_at_once, lacks_node, class_name, default_class}
use Rattle.binder_model.specs.Fields.{update_fault, create_fault}
use Rattle.binder_model.specs.Answers.{Outcome, Says, Stores, Removes, is_user, is_other_version, is_other_uid, guard_on, with_status}
use Rattle.binder_model.specs.Devices.{device_answer}
use Rattle.binder_model.specs.Told.{SomeOf, objects_in}
use Rattle.binder_model.specs.World.{World, Effect, OnStore, OnDevices, SetsMoment, effect, stale_epoch}
use Rattle.call_types.specs.declared.reply.Reply.{Reply}
use Rattle.call_types.specs.declared.setup.Setup.{Setup}

-- the first write of an object
pub record IsCreate (s : State) (kind : SeatKind) (moment : List ℕ) (new o : Object) : Type 0 where
  pub free : row_at (key_of new) s.rows ≡ None
  pub guard : guard_on kind None new ≡ None
  pub fault : create_fault (lacks_node new s.rows) new ≡ None
  pub is : o ≡ created_object (class_name (default_class s.rows)) new (s.version + 1) moment

-- an Update that was done: version, guard and fields passed
pub record IsUpdate (s : State) (kind : SeatKind) (new : Object) (given : Option ℕ) (o : Object) : Type 0 where
  pub old : Object
  pub there : row_at (key_of new) s.rows ≡ Some old
  pub version : is_other_version given (meta_of old).version ≡ false
  pub guard : guard_on kind (Some old) new ≡ None
  pub fault : update_fault old new ≡ None
  pub is : o ≡ updated_object old new (s.version + 1)

-- an edit is the update to the edited object
pub record IsEdit (s : State) (kind : SeatKind) (o : Object) : Type 0 where
  pub new : Object
  pub update : IsUpdate s kind new None o

-- a write of a status that was done
pub record IsStatus (s : State) (kind : SeatKind) (key : Key) (status : NewStatus) (given : Option ℕ) (o : Object) : Type 0 where
  pub old : Object
  pub there : row_at key s.rows ≡ Some old
  pub controller : is_user kind ≡ false
  pub version : is_other_version given (meta_of old).version ≡ false
  pub new : Object
  pub fits : with_status status old ≡ Some new
  pub is : o ≡ at_version new (s.version + 1)

-- a Delete that marked an object
pub record IsMark (s : State) (moment : List ℕ) (key : Key) (given : Option Uid) (o : Object) : Type 0 where
  pub old : Object
  pub there : row_at key s.rows ≡ Some old
  pub uid : is_other_uid given (meta_of old).uid ≡ false
  pub first : (leaves_at_once old ≡ true) ⊎ (is_deleting (meta_of old) ≡ false)
  pub is : o ≡ marked_object old (s.version + 1) moment

-- a pod was given its node
pub record IsBind (s : State) (kind : SeatKind) (key : Key) (uid : Uid) (node : List ℕ) (o : Object) : Type 0 where
  pub pod : PodData
  pub there : row_at key s.rows ≡ Some (Pod pod)
  pub controller : is_user kind ≡ false
  pub same : is_uid pod.meta.uid uid ≡ true
  pub unscheduled : is_scheduled pod ≡ false
  pub is : o ≡ at_version (Pod (record pod { node = node })) (s.version + 1)

-- an agent finished a pod of its node
pub record IsFinish (s : State) (kind : SeatKind) (key : Key) (uid : Uid) (node : List ℕ) (stale : Option ℕ) (o : Object) : Type 0 where
  pub pod : PodData
  pub there : row_at key s.rows ≡ Some (Pod pod)
  pub controller : is_user kind ≡ false
  pub same : is_uid pod.meta.uid uid ≡ true
  pub current : stale ≡ None
  pub deleting : is_deleting pod.meta ≡ true
  pub placed : bytes_eq pod.node node ≡ true
  pub is : o ≡ at_version (Pod pod) (s.version + 1)

-- the write that the request asked for
abbrev pub WriteOf : State → SeatKind → List ℕ → Option ℕ → Request → Object → Type 0
WriteOf s kind moment stale (requests.Create new) o = IsCreate s kind moment new o
WriteOf s kind moment stale (requests.Update new given) o = IsUpdate s kind new given o
WriteOf s kind moment stale (requests.UpdateStatus key status given) o = IsStatus s kind key status given o
WriteOf s kind moment stale (requests.Edit key change) o = IsEdit s kind o
WriteOf s kind moment stale (requests.Delete key given) o = IsMark s moment key given o
WriteOf s kind moment stale (requests.BindPod key uid node) o = IsBind s kind key uid node o
WriteOf s kind moment stale (requests.FinishPod key uid node epoch) o = IsFinish s kind key uid node stale o
WriteOf s kind moment stale _ o = ⊥

-- the requests by which a pod may leave: FinishPod, or Delete where no node runs it
abbrev pub PodGoes : Request → PodData → Type 0
PodGoes (requests.FinishPod key uid node epoch) p = ⊤
PodGoes (requests.Delete key given) p = is_scheduled p ≡ false
PodGoes _ p = ⊥

-- how an object leaves: a pod by its own verbs, any other without finalizers once it is deleting
abbrev pub IsLeaving : Request → Object → Type 0
IsLeaving request (Pod p) = PodGoes request p
IsLeaving request o = leaves o ≡ true

-- the write of the store that was asked in this world
abbrev pub Writes : World → SeatKind → Request → Object → Type 0
Writes w kind request o = WriteOf w.store kind w.moment (stale_epoch w.devices request) request o

-- the request is a watch
abbrev pub is_watch : Request → Bool
is_watch (requests.Watch k from) = true
is_watch request = false

-- the object is among these
abbrev pub IsIn : Object → List Object → Type 0
IsIn o os = SomeOf (λ x. x ≡ o) os

-- each object that the answer tells stands there
abbrev pub TellsStanding : List Object → Reply → Type 0
TellsStanding rows reply = (o : Object) → IsIn o (objects_in reply) → row_at (key_of o) rows ≡ Some o

-- an outcome: an answer that tells what stands there, a write, or a write after which the object leaves
abbrev pub FormOf : State → (Object → Type 0) → Request → Outcome → Type 0
FormOf s W request (Says reply) = is_watch request ≡ false → TellsStanding s.rows reply
FormOf s W request (Stores change o) = W o
FormOf s W request (Removes o) = W o × IsLeaving request o

-- an effect: an outcome of the store, an answer of the devices to a controller, or a new moment
abbrev pub EffectOf : Setup → World → SeatKind → Request → Effect → Type 0
EffectOf setup w kind request (OnStore o) = FormOf w.store (Writes w kind request) request o
EffectOf setup w kind request (OnDevices a) = (is_user kind ≡ false) × (device_answer setup w.devices request ≡ Some a)
EffectOf setup w kind request (SetsMoment at) = request ≡ requests.SetTime at

-- each call comes to what was asked, past the tests of its verb
abbrev pub CallsComeToWhatWasAsked : Type 0
CallsComeToWhatWasAsked =
    (setup : Setup) (w : World) (kind : SeatKind) (request : Request)
    → AreRows w.store.rows → EffectOf setup w kind request (effect setup w kind request)
