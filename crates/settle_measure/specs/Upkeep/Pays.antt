-- Which calls of the protection controllers, the provisioner, the reclaimer, the scheduler and the node agents lower what is
-- left to do, and by how much.
-- A choice of this project.
use Rattle.std.specs.Prelude.{ℕ, ◌≡◌, ◌≤◌, ◌+◌, Bool, true, false, List, Option, Some, None, bytes_eq}
use Rattle.kube_parts.specs.declared.names.Due.TheVariants as dues
use Rattle.kube_parts.specs.declared.parts.VolumePhase.TheVariants as volumes
use Rattle.kube_objects.specs.declared.objects.Claim.{Claim as ClaimData}
use Rattle.kube_objects.specs.declared.objects.Volume.{Volume as VolumeData}
use Rattle.kube_objects.specs.declared.objects.Object.TheVariants.{Volume, Claim, Pod}
use Rattle.kube_parts.specs.declared.uid.Uid.{Uid}
use Rattle.plain_data.specs.Pairs.{Pair}
use Rattle.binder_model.specs.Due.{claim_guard_due, is_pod_mounted, reclaim_due, volume_guard_due}
use Rattle.binder_model.specs.GuardLicence.{guarded_meta, unguarded_meta}
use Rattle.kube_objects.specs.Bindings.{pv_protection, pvc_protection, ref_uid, is_deleting, is_empty, is_scheduled}
use Rattle.kube_objects.specs.Keys.{AreRows, key_of, row_at}
use Rattle.call_types.specs.declared.request.Request.TheVariants.{BindPod, Create, Delete, Erase, FinishPod, Mount, Provision, Unmount, Update}
use Rattle.call_types.specs.declared.request.SeatKind.{SeatKind}
use Rattle.call_types.specs.declared.setup.Setup.{Setup}
use Rattle.binder_model.specs.ObjectKeys.{volume_key}
use Rattle.kube_objects.specs.declared.objects.Class.{Class as ClassData}
use Rattle.kube_objects.specs.declared.objects.DataId.{DataId}
use Rattle.call_types.specs.declared.reply.Reply.TheVariants.{Erased, Mounted, Provisioned}
use Rattle.call_types.specs.declared.reply.MountRow.{MountRow}
use Rattle.binder_model.specs.Same.{same_uid}
use Rattle.kube_objects.specs.declared.objects.Pod.{Pod as PodData}
use Rattle.kube_objects.specs.Sources.{data_id_of}
use Rattle.binder_model.specs.Answers.{Removes}
use Rattle.binder_model.specs.Told.{SomeOf}
use Rattle.binder_model.specs.Provisioning.{data_name, provisioned_volume}
use Rattle.binder_model.specs.Devices.{Data, DeviceAnswer, device_answer, has_data, has_id, same_id}
use Rattle.binder_model.specs.Store.{at_version}
use Rattle.binder_model.specs.World.{OnStore, World, effect, world_after}
use Rattle.settle_measure.specs.Left.Measure.{was_erased, is_seeking, left_of}
use Rattle.settle_measure.specs.Left.Lowers.{Lowers, StandsVolume, StandsClaim, with_devices}
use Rattle.settle_measure.specs.Binding.Pays.{set_phase}

-- a volume's finalizer, added where it is due
abbrev pub VolumeGuardPays : Type 0
VolumeGuardPays = (setup : Setup) (w : World) (kind : SeatKind) (v : VolumeData) → StandsVolume w v → volume_guard_due v ≡ Some dues.Guard
    → Lowers setup w kind (Update (Volume (record v { meta = guarded_meta pv_protection v.meta })) (Some v.meta.version)) 1

-- where it stays for other finalizers, and where it leaves: it pays for a completed claim that then needs another
abbrev pub VolumeUnguardPays : Type 0
VolumeUnguardPays =
    (setup : Setup) (w : World) (kind : SeatKind) (v : VolumeData) → StandsVolume w v → volume_guard_due v ≡ Some dues.Unguard
    → Lowers setup w kind (Update (Volume (record v { meta = unguarded_meta pv_protection v.meta })) (Some v.meta.version)) 1

-- a claim's finalizer, added where it is due
abbrev pub ClaimGuardPays : Type 0
ClaimGuardPays = (setup : Setup) (w : World) (kind : SeatKind) (c : ClaimData) → StandsClaim w c → claim_guard_due w.store.rows c ≡ Some dues.Guard
    → Lowers setup w kind (Update (Claim (record c { meta = guarded_meta pvc_protection c.meta })) (Some c.meta.version)) 1

-- a claim's finalizer, dropped where it is due: the claim stays or leaves
abbrev pub ClaimUnguardPays : Type 0
ClaimUnguardPays = (setup : Setup) (w : World) (kind : SeatKind) (c : ClaimData) → StandsClaim w c
    → claim_guard_due w.store.rows c ≡ Some dues.Unguard → Lowers setup w kind (Update (Claim (record c { meta = unguarded_meta pvc_protection c.meta })) (Some c.meta.version)) 1

-- reclaiming: phase Failed over Released, and the deletion
abbrev pub FailedPays : Type 0
FailedPays = (setup : Setup) (w : World) (kind : SeatKind) (v : VolumeData) (uid : Uid) → StandsVolume w v → ref_uid v.claim_ref ≡ Some uid
    → v.phase ≡ volumes.Released → Lowers setup w kind (set_phase v volumes.Failed) 1

-- the deletion of a volume that is to be reclaimed
abbrev pub DeletePays : Type 0
DeletePays =
    (setup : Setup) (w : World) (kind : SeatKind) (v : VolumeData) (given : Option Uid) → StandsVolume w v → reclaim_due v ≡ Some dues.Reclaim
    → Lowers setup w kind (Delete (volume_key v.meta.name) given) 1

-- a provisioner makes the volume of a claim that seeks one
abbrev pub CreatePays : Type 0
CreatePays =
    (setup : Setup) (w : World) (kind : SeatKind) (c : ClaimData) (class : ClassData) (id : DataId) (topology : Option (List ℕ × List ℕ)) (s : StandsClaim w c) → is_seeking c ≡ true
    → Lowers setup w kind (Create (Volume (provisioned_volume c s.uid class id topology))) 1

-- new data for a claim that seeks a volume
abbrev pub ProvisionPays : Type 0
ProvisionPays =
    (setup : Setup) (w : World) (c : ClaimData) (provisioner : List ℕ) (bytes : ℕ) (labels : Option (List Pair)) (a : DeviceAnswer) (id : DataId)
    (topology : Option (List ℕ × List ℕ)) (s : StandsClaim w c) → is_seeking c ≡ true
    → has_data w.devices (data_name s.uid) ≡ false → device_answer setup w.devices (Provision (data_name s.uid) provisioner bytes labels) ≡ Some a → a.reply ≡ Provisioned id topology
    → left_of (with_devices w a) + 1 ≤ left_of w

-- whatever else a provisioner is answered, what is left to do does not rise
abbrev pub ProvisionStays : Type 0
ProvisionStays =
    (setup : Setup) (w : World) (name provisioner : List ℕ) (bytes : ℕ) (labels : Option (List Pair)) (a : DeviceAnswer) → AreRows w.store.rows
    → device_answer setup w.devices (Provision name provisioner bytes labels) ≡ Some a → left_of (with_devices w a) ≤ left_of w

-- the data of a claim have this name
abbrev pub is_data_name : List ℕ → Option Uid → Bool
is_data_name name None = false
is_data_name name (Some uid) = bytes_eq (data_name uid) name

-- what is there under an id has one name, and one claim at most has data of that name
pub record IsOneData (w : World) (id : DataId) (name : List ℕ) : Type 0 where
  pub named : (x : Data) → SomeOf (λ y. y ≡ x) w.devices.stored → x.there ≡ true → same_id x.id id ≡ true → x.name ≡ name
  pub owner : (c e : ClaimData) → row_at (key_of (Claim c)) w.store.rows ≡ Some (Claim c) → row_at (key_of (Claim e)) w.store.rows ≡ Some (Claim e)
      → is_data_name name c.meta.uid ≡ true → is_data_name name e.meta.uid ≡ true → key_of (Claim c) ≡ key_of (Claim e)

-- data that are there are erased: the volume pays for the claim that may get data again
abbrev pub ErasePays : Type 0
ErasePays =
    (setup : Setup) (w : World) (v : VolumeData) (name : List ℕ) (a : DeviceAnswer) (removed : Bool) → AreRows w.store.rows
    → row_at (key_of (Volume v)) w.store.rows ≡ Some (Volume v) → is_deleting v.meta ≡ false
    → has_id (data_id_of v.source) w.devices.stored ≡ true → was_erased (data_id_of v.source) w.devices.stored ≡ false → IsOneData w (data_id_of v.source) name
    → device_answer setup w.devices (Erase (data_id_of v.source)) ≡ Some a → a.reply ≡ Erased removed → left_of (with_devices w a) + 1 ≤ left_of w

-- a pod is bound to a node
abbrev pub AssignPays : Type 0
AssignPays =
    (setup : Setup) (w : World) (kind : SeatKind) (p : PodData) (uid : Uid) (node : List ℕ) → AreRows w.store.rows
    → row_at (key_of (Pod p)) w.store.rows ≡ Some (Pod p) → is_scheduled p ≡ false → is_empty node ≡ false
    → Lowers setup w kind (BindPod (key_of (Pod p)) uid node) 1

-- a pod that is finished leaves
abbrev pub FinishPays : Type 0
FinishPays =
    (setup : Setup) (w : World) (kind : SeatKind) (p : PodData) (uid : Uid) (node : List ℕ) (epoch : ℕ) → AreRows w.store.rows → row_at (key_of (Pod p)) w.store.rows ≡ Some (Pod p)
    → effect setup w kind (FinishPod (key_of (Pod p)) uid node epoch) ≡ OnStore (Removes (at_version (Pod p) (w.store.version + 1)))
    → left_of (world_after w (effect setup w kind (FinishPod (key_of (Pod p)) uid node epoch))) + 1 ≤ left_of w

-- the UID of a pod, if it has one, is this one
abbrev pub is_pod_uid : Uid → Option Uid → Bool
is_pod_uid uid None = false
is_pod_uid uid (Some other) = same_uid uid other

-- no other pod has the UID
abbrev pub IsOnePod : World → PodData → Uid → Type 0
IsOnePod w p uid = (q : PodData) → row_at (key_of (Pod q)) w.store.rows ≡ Some (Pod q) → is_pod_uid uid q.meta.uid ≡ true → q ≡ p

-- the mount of a pod that is on a node, stays and is not mounted
abbrev pub MountPays : Type 0
MountPays =
    (setup : Setup) (w : World) (p : PodData) (uid : Uid) (epoch : ℕ) (claims : List Uid) (a : DeviceAnswer) (rows : List MountRow)
    → AreRows w.store.rows → row_at (key_of (Pod p)) w.store.rows ≡ Some (Pod p)
    → p.meta.uid ≡ Some uid → is_scheduled p ≡ true → is_deleting p.meta ≡ false → is_pod_mounted w.devices p ≡ false → IsOnePod w p uid
    → device_answer setup w.devices (Mount p.node epoch uid claims) ≡ Some a → a.reply ≡ Mounted rows → left_of (with_devices w a) + 1 ≤ left_of w

-- the unmount of a pod that is deleting and mounted
abbrev pub UnmountPays : Type 0
UnmountPays =
    (setup : Setup) (w : World) (p : PodData) (uid : Uid) (epoch : ℕ) (a : DeviceAnswer) (rows : List MountRow) → AreRows w.store.rows → row_at (key_of (Pod p)) w.store.rows ≡ Some (Pod p)
    → p.meta.uid ≡ Some uid → is_scheduled p ≡ true → is_deleting p.meta ≡ true → is_pod_mounted w.devices p ≡ true → IsOnePod w p uid
    → device_answer setup w.devices (Unmount p.node epoch uid) ≡ Some a → a.reply ≡ Mounted rows → left_of (with_devices w a) + 1 ≤ left_of w

-- an erasure that finds nothing leaves what is to do alone
abbrev pub EraseStays : Type 0
EraseStays = (setup : Setup) (w : World) (id : DataId) (a : DeviceAnswer) → AreRows w.store.rows → has_id id w.devices.stored ≡ false
    → device_answer setup w.devices (Erase id) ≡ Some a → left_of (with_devices w a) ≤ left_of w
