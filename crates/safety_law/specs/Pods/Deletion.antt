-- A deletion stays: what is told of an object that is to go, and of a pod that the newest telling shows staying.
-- Source: Kubernetes API conventions, "Metadata": a deletion timestamp is set by the server and not taken back, and a UID is
-- given once. Lists of entries begin with the newest.
use Rattle.std.specs.Prelude.{ℕ, ◌≡◌, ◌≤◌, ◌<◌, true, false, List, Some, length}
use Rattle.kube_parts.specs.declared.uid.Uid.{Uid}
use Rattle.kube_objects.specs.declared.objects.Pod.{Pod as PodData}
use Rattle.kube_objects.specs.declared.objects.Object.{Object}
use Rattle.kube_objects.specs.declared.objects.Object.TheVariants.{Pod}
use Rattle.kube_objects.specs.Keys.{meta_of}
use Rattle.kube_objects.specs.Bindings.{is_deleting}
use Rattle.call_types.specs.declared.entry.Entry.{Entry}
use Rattle.call_types.specs.declared.setup.Setup.{Setup}
use Rattle.binder_model.specs.Imports.{ImportsPass}
use Rattle.binder_model.specs.ObjectKeys.{pod_key}
use Rattle.binder_model.specs.Promises.{most_entries}
use Rattle.binder_model.specs.Told.{IsNewest, ToldPod, own}
use Rattle.binder_model.specs.World.{IsHistory}
use Rattle.model_laws.specs.Stood.{Stood}
use Rattle.safety_law.specs.Pods.Tellings.{AreToldByReads}

-- Of two versions of an object that stood in the store, the later one is deleting where the earlier one is. One object is what
-- has one UID; two imports may have one, and serials come to an end, so imports are to pass, and the history to be short
abbrev pub DeletionsStay : Type 0
DeletionsStay =
    (setup : Setup) (past : List Entry) → ImportsPass setup.imports → length past < most_entries
    → (old new : Object) (uid : Uid) → Stood setup past old → Stood setup past new
    → (meta_of old).uid ≡ Some uid → (meta_of new).uid ≡ Some uid → (meta_of old).version ≤ (meta_of new).version
    → is_deleting (meta_of old) ≡ true → is_deleting (meta_of new) ≡ true

-- the pod with the UID, deleting
pub record IsDeletingPod (uid : Uid) (p : PodData) : Type 0 where
  pub same : p.meta.uid ≡ Some uid
  pub deleting : is_deleting p.meta ≡ true

-- a pod that the newest telling of its key shows staying was never told deleting, under no key
abbrev pub StayingWasNeverDeleting : Type 0
StayingWasNeverDeleting =
    (setup : Setup) (past : List Entry) (seat : ℕ) → ImportsPass setup.imports → length past < most_entries → IsHistory setup past
    → AreToldByReads (own seat past)
    → (p : PodData) (uid : Uid) → IsNewest (own seat past) (pod_key p.meta.namespace p.meta.name) (Pod p) → p.meta.uid ≡ Some uid → is_deleting p.meta ≡ false
    → ToldPod (IsDeletingPod uid) (own seat past) → ⊥
