-- Writes of a controller on objects as they stand: each is done, and lasts.
-- A choice of this project.
use Rattle.std.specs.Prelude.{ℕ, ◌≡◌, ◌≢◌, ◌⊎◌, true, false, List, Option, Some}
use Rattle.plain_data.specs.Pairs.{put_pair, value_at, without_key}
use Rattle.kube_parts.specs.declared.names.Due.TheVariants as dues
use Rattle.kube_parts.specs.declared.parts.ClaimPhase.TheVariants as claims
use Rattle.kube_parts.specs.declared.parts.VolumePhase.{VolumePhase}
use Rattle.kube_parts.specs.declared.parts.Modes.{Modes}
use Rattle.kube_objects.specs.declared.objects.Amount.{Amount}
use Rattle.kube_objects.specs.declared.objects.Claim.{Claim as ClaimData}
use Rattle.kube_objects.specs.declared.objects.Volume.{Volume as VolumeData}
use Rattle.kube_objects.specs.declared.objects.Object.{Object}
use Rattle.kube_objects.specs.declared.objects.Object.TheVariants.{Volume, Claim}
use Rattle.kube_parts.specs.declared.uid.Uid.{Uid}
use Rattle.kube_objects.specs.Bindings.{carries, has_key, is_completed, is_deleting, is_empty, is_lost, lacks_class, pv_protection, pvc_protection, ref_uid, selected_node}
use Rattle.kube_objects.specs.Keys.{key_of, row_at}
use Rattle.call_types.specs.declared.request.NewStatus.TheVariants as statuses
use Rattle.call_types.specs.declared.request.Request.{Request}
use Rattle.call_types.specs.declared.request.Request.TheVariants.{Delete, Update, UpdateStatus}
use Rattle.call_types.specs.declared.request.SeatKind.{SeatKind}
use Rattle.call_types.specs.declared.setup.Setup.{Setup}
use Rattle.binder_model.specs.Answers.{is_other_uid, is_user}
use Rattle.binder_model.specs.BindWrites.{shows_bound, write_claim_status, write_completion, write_reference, write_unbound}
use Rattle.binder_model.specs.Due.{claim_guard_due, volume_guard_due}
use Rattle.binder_model.specs.GuardLicence.{guarded_meta, unguarded_meta}
use Rattle.binder_model.specs.ObjectKeys.{claim_key, volume_key}
use Rattle.binder_model.specs.World.{World}
use Rattle.settle_writes.specs.Writes.Lasting.{Lasts}
use Rattle.settle_writes.specs.Writes.Valid.{IsValid}

-- the object stands in the store as it is here, and passes the tests of a create
pub record IsStored (w : World) (o : Object) : Type 0 where
  pub there : row_at (key_of o) w.store.rows ≡ Some o
  pub valid : IsValid o

-- a volume is written whole, at its version, as are all requests here
abbrev pub update_volume : VolumeData → VolumeData → Request
update_volume v new = Update (Volume new) (Some v.meta.version)

-- a claim is written whole
abbrev pub update_claim : ClaimData → ClaimData → Request
update_claim c new = Update (Claim new) (Some c.meta.version)

-- the phase of a volume
abbrev pub write_phase : VolumeData → VolumePhase → Request
write_phase v phase = UpdateStatus (volume_key v.meta.name) (statuses.Volume phase) (Some v.meta.version)

-- phase Lost of a claim, with the modes and the amount that its status shows
abbrev pub write_lost : ClaimData → Modes → Option Amount → Request
write_lost c modes amount = UpdateStatus (claim_key c.meta.namespace c.meta.name) (statuses.Claim claims.Lost modes amount) (Some c.meta.version)

-- a volume's own phase: Available, Bound, Released, Failed
abbrev pub PhaseLasts : Type 0
PhaseLasts = (setup : Setup) (w : World) (kind : SeatKind) (v : VolumeData) (phase : VolumePhase) → is_user kind ≡ false → IsStored w (Volume v)
    → v.phase ≢ phase → Lasts setup w kind (write_phase v phase)

-- unbinding takes the UID at least
abbrev pub UnbindLasts : Type 0
UnbindLasts = (setup : Setup) (w : World) (kind : SeatKind) (v : VolumeData) (uid : Uid) → is_user kind ≡ false → IsStored w (Volume v)
    → ref_uid v.claim_ref ≡ Some uid → Lasts setup w kind (write_unbound v)

-- the first write of a binding, for a volume that does not carry the claim
abbrev pub ReferenceLasts : Type 0
ReferenceLasts =
    (setup : Setup) (w : World) (kind : SeatKind) (v : VolumeData) (c : ClaimData) (uid : Uid) → is_user kind ≡ false → IsStored w (Volume v)
    → IsValid (Claim c) → c.meta.uid ≡ Some uid → carries v c ≡ false
    → Lasts setup w kind (write_reference v c)

-- the third, for a claim that is not completed and names no other volume
abbrev pub CompletionLasts : Type 0
CompletionLasts =
    (setup : Setup) (w : World) (kind : SeatKind) (v : VolumeData) (c : ClaimData) → is_user kind ≡ false → IsStored w (Claim c)
    → is_completed c ≡ false → (is_empty c.volume_name ≡ true) ⊎ (c.volume_name ≡ v.meta.name)
    → Lasts setup w kind (write_completion v c)

-- the fourth
abbrev pub StatusLasts : Type 0
StatusLasts = (setup : Setup) (w : World) (kind : SeatKind) (v : VolumeData) (c : ClaimData) → is_user kind ≡ false → IsStored w (Claim c)
    → shows_bound c v ≡ false → Lasts setup w kind (write_claim_status v c)

-- phase Lost, over another phase
abbrev pub LostLasts : Type 0
LostLasts = (setup : Setup) (w : World) (kind : SeatKind) (c : ClaimData) (modes : Modes) (amount : Option Amount) → is_user kind ≡ false
    → IsStored w (Claim c) → is_lost c.phase ≡ false → Lasts setup w kind (write_lost c modes amount)

-- a class for a claim that lacks one and is not completed
abbrev pub ClassLasts : Type 0
ClassLasts =
    (setup : Setup) (w : World) (kind : SeatKind) (c : ClaimData) (class : List ℕ) → is_user kind ≡ false → IsStored w (Claim c) → lacks_class c ≡ true → is_completed c ≡ false
    → Lasts setup w kind (update_claim c (record c { class = Some class }))

-- the node that the scheduler selects for a claim, another than before
abbrev pub NodeLasts : Type 0
NodeLasts =
    (setup : Setup) (w : World) (kind : SeatKind) (c : ClaimData) (node : List ℕ) → is_user kind ≡ false → IsStored w (Claim c) → value_at selected_node c.meta.annotations ≢ Some node
    → Lasts setup w kind (update_claim c (record c { meta = record c.meta { annotations = put_pair selected_node node c.meta.annotations } }))

-- and its being cleared
abbrev pub ClearLasts : Type 0
ClearLasts =
    (setup : Setup) (w : World) (kind : SeatKind) (c : ClaimData) → is_user kind ≡ false → IsStored w (Claim c) → has_key selected_node c.meta.annotations ≡ true
    → Lasts setup w kind (update_claim c (record c { meta = record c.meta { annotations = without_key selected_node c.meta.annotations } }))

-- a volume's finalizer, added
abbrev pub VolumeGuardLasts : Type 0
VolumeGuardLasts = (setup : Setup) (w : World) (kind : SeatKind) (v : VolumeData) → is_user kind ≡ false → IsStored w (Volume v)
    → volume_guard_due v ≡ Some dues.Guard → Lasts setup w kind (update_volume v (record v { meta = guarded_meta pv_protection v.meta }))

-- a volume's finalizer, dropped
abbrev pub VolumeUnguardLasts : Type 0
VolumeUnguardLasts = (setup : Setup) (w : World) (kind : SeatKind) (v : VolumeData) → is_user kind ≡ false → IsStored w (Volume v)
    → volume_guard_due v ≡ Some dues.Unguard → Lasts setup w kind (update_volume v (record v { meta = unguarded_meta pv_protection v.meta }))

-- a claim's finalizer, added
abbrev pub ClaimGuardLasts : Type 0
ClaimGuardLasts = (setup : Setup) (w : World) (kind : SeatKind) (c : ClaimData) → is_user kind ≡ false → IsStored w (Claim c)
    → claim_guard_due w.store.rows c ≡ Some dues.Guard → Lasts setup w kind (update_claim c (record c { meta = guarded_meta pvc_protection c.meta }))

-- a claim's finalizer, dropped
abbrev pub ClaimUnguardLasts : Type 0
ClaimUnguardLasts = (setup : Setup) (w : World) (kind : SeatKind) (c : ClaimData) → is_user kind ≡ false → IsStored w (Claim c)
    → claim_guard_due w.store.rows c ≡ Some dues.Unguard → Lasts setup w kind (update_claim c (record c { meta = unguarded_meta pvc_protection c.meta }))

-- the deletion of a volume that stays
abbrev pub DeleteLasts : Type 0
DeleteLasts = (setup : Setup) (w : World) (kind : SeatKind) (v : VolumeData) (given : Option Uid) → is_user kind ≡ false → IsStored w (Volume v)
    → is_deleting v.meta ≡ false → is_other_uid given v.meta.uid ≡ false → Lasts setup w kind (Delete (volume_key v.meta.name) given)
