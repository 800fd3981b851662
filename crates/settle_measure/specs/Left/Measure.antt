-- How much a world still has to do: a number that falls with each lasting write of a controller that sees the world as it is.
-- A choice of this project.
use Rattle.std.specs.Prelude.{ℕ, ◌+◌, nat_lt, Bool, true, false, not, ◌&&◌, ◌||◌, List, [], ◌∷◌, Option, Some, None, is_some, length, filter, if◌then◌else◌}
use Rattle.std.specs.List.{list_any}
use Rattle.kube_parts.specs.declared.uid.Uid.{Uid}
use Rattle.kube_parts.specs.declared.parts.ClaimPhase.{ClaimPhase}
use Rattle.kube_parts.specs.declared.parts.ClaimPhase.TheVariants as claims
use Rattle.kube_parts.specs.declared.parts.VolumePhase.{VolumePhase}
use Rattle.kube_parts.specs.declared.parts.VolumePhase.TheVariants as volumes
use Rattle.kube_objects.specs.declared.objects.DataId.{DataId}
use Rattle.kube_objects.specs.declared.objects.Ref.{Ref}
use Rattle.kube_objects.specs.declared.objects.Claim.{Claim as ClaimData}
use Rattle.kube_objects.specs.declared.objects.Pod.{Pod as PodData}
use Rattle.kube_objects.specs.declared.objects.Volume.{Volume as VolumeData}
use Rattle.kube_objects.specs.declared.objects.Object.{Object}
use Rattle.kube_objects.specs.declared.objects.Object.TheVariants.{Volume, Claim, Pod}
use Rattle.kube_objects.specs.Keys.{row_at}
use Rattle.kube_objects.specs.Bindings.{
  beta_class,
  has_key,
  is_deleting,
  is_scheduled,
  is_protected_volume,
  is_protected_claim,
  is_completed,
  is_ended,
  is_bound,
  is_available,
  is_empty,
  carries,
  ref_uid,
}
use Rattle.call_types.specs.declared.setup.Setup.{Setup}
use Rattle.binder_model.specs.ObjectKeys.{claim_key, volume_key}
use Rattle.binder_model.specs.Matching.{fits, is_selected}
use Rattle.binder_model.specs.Devices.{Data, Devices, has_data, same_id}
use Rattle.kube_objects.specs.Sources.{data_id_of}
use Rattle.binder_model.specs.BindWrites.{shows_bound}
use Rattle.binder_model.specs.Provisioning.{data_name}
use Rattle.binder_model.specs.Due.{is_pod_mounted}
use Rattle.binder_model.specs.World.{World}

-- so much as long as the test fails
abbrev pub unless : Bool → ℕ → ℕ
unless b n = if b then 0 else n

-- a protection finalizer is to be added, later dropped
abbrev pub guard_left : Bool → Bool → ℕ
guard_left deleting true = 1
guard_left true false = 0
guard_left false false = 2

-- the claim waits for a volume and names none
abbrev pub is_seeking : ClaimData → Bool
is_seeking c = not (is_completed c) && not (is_deleting c.meta) && is_empty c.volume_name

-- what stands under a key is a claim that waits so
abbrev pub seeks : Option Object → Bool
seeks (Some (Claim c)) = is_seeking c
seeks _ = false

-- a user gave the volume to the claim under this key, which waits for a volume
abbrev pub is_awaited : List Object → Option Ref → Bool
is_awaited rows None = false
is_awaited rows (Some r) = seeks (row_at (claim_key r.namespace r.name) rows)

-- the phases that a volume with a UID in its reference has still before it
abbrev pub phase_left : VolumePhase → ℕ
phase_left volumes.Bound = 2
phase_left volumes.Released = 1
phase_left volumes.Failed = 0
phase_left _ = 3

-- what is left for a volume by its reference: none, with or without a claim that it was given to, or one with a UID
abbrev pub stage_left : Bool → Option Uid → VolumePhase → ℕ
stage_left awaited None phase = unless (is_available phase) 1 + unless (not awaited) 4
stage_left awaited (Some uid) phase = phase_left phase

-- the data of this id were erased
abbrev pub was_erased : DataId → List Data → Bool
was_erased id stored = list_any (λ x. not x.there && same_id x.id id) stored

-- the volume has ended with its reference, so it is never taken for a claim again
abbrev pub is_over : Option Uid → VolumePhase → Bool
is_over uid phase = is_some uid && is_ended phase

-- a volume that stays is to be deleted; before that its data are to be erased. One that is deleting may still be taken until it is over
abbrev pub life_left : Bool → Bool → Bool → ℕ
life_left true over erased = unless over 1
life_left false over erased = 1 + unless erased 2

-- what is left for a volume: its way to Bound, its deletion and its guard
abbrev pub volume_left : List Object → Devices → VolumeData → ℕ
volume_left rows d v =
    stage_left (is_awaited rows v.claim_ref) (ref_uid v.claim_ref) v.phase
    + (life_left (is_deleting v.meta) (is_over (ref_uid v.claim_ref) v.phase) (was_erased (data_id_of v.source) d.stored) + guard_left (is_deleting v.meta) (is_protected_volume v))

-- the volume carries the claim, stays and has not ended
abbrev pub holds : VolumeData → ClaimData → Bool
holds v c = carries v c && not (is_deleting v.meta) && not (is_ended v.phase)

-- what stands under a key is a volume that carries the claim, stays and has not ended
abbrev pub is_held_by : ClaimData → Option Object → Bool
is_held_by c (Some (Volume v)) = holds v c
is_held_by c _ = false

-- and the binder may take it for the claim
abbrev pub is_fit : VolumeData → ClaimData → Bool
is_fit v c = not (is_deleting v.meta) && is_protected_volume v && fits v c && is_selected c.selector v.meta.labels

-- the volume carries the claim, the binder may take it, and it has not ended
abbrev pub offers : VolumeData → ClaimData → Bool
offers v c = carries v c && (is_fit v c && not (is_ended v.phase))

-- the object is a volume that offers itself to the claim
abbrev pub offers_claim : ClaimData → Object → Bool
offers_claim c (Volume v) = offers v c
offers_claim c o = false

-- some volume offers itself to the claim
abbrev pub has_offer : List Object → ClaimData → Bool
has_offer rows c = list_any (offers_claim c) rows

-- the claim has a class, by its field or by the beta annotation
abbrev pub has_class : ClaimData → Bool
has_class c = is_some c.class || has_key beta_class c.meta.annotations

-- the volume that a provisioner makes for the claim, and its data
abbrev pub provision_left : List Object → Devices → ClaimData → Option Uid → ℕ
provision_left rows d c None = 9
provision_left rows d c (Some uid) = unless (is_held_by c (row_at (volume_key (data_name uid)) rows)) 8 + unless (has_data d (data_name uid)) 1

-- a claim that names no volume needs a class, a volume that carries it, or one that is provisioned
abbrev pub seeking_left : List Object → Devices → ClaimData → ℕ
seeking_left rows d c = unless (has_class c) 1 + (unless (has_offer rows c) 4 + provision_left rows d c c.meta.uid)

-- a claim that is not completed: one that names a volume needs that volume to carry it
abbrev pub open_left : List Object → Devices → ClaimData → ℕ
open_left rows d c = if is_empty c.volume_name then seeking_left rows d c else unless (is_held_by c (row_at (volume_key c.volume_name) rows)) 4

-- the phase is Lost
abbrev pub is_lost : ClaimPhase → Bool
is_lost claims.Lost = true
is_lost _ = false

-- a completed claim that its volume carries: its status is to be written, once the volume is Bound. Until then the volume may leave
abbrev pub carried_left : ClaimData → VolumeData → ℕ
carried_left c v = if is_bound v.phase then unless (shows_bound c v) 1 else 1 + unless (is_lost c.phase) 1

-- a completed claim: where its volume is away, has ended or does not carry it, also this
abbrev pub completed_left : ClaimData → Option Object → ℕ
completed_left c (Some (Volume v)) = if carries v c && not (is_ended v.phase) then carried_left c v else 5 + unless (is_lost c.phase) 1
completed_left c _ = 5 + unless (is_lost c.phase) 1

-- what is left until the claim is bound and its status says so. Where it is deleting and not completed, nothing is left
abbrev pub binding_left : List Object → Devices → ClaimData → ℕ
binding_left rows d c =
    if is_completed c then completed_left c (row_at (volume_key c.volume_name) rows)
    else unless (is_deleting c.meta) (2 + open_left rows d c)

-- what is left for a claim: its binding and its guard
abbrev pub claim_left : List Object → Devices → ClaimData → ℕ
claim_left rows d c = binding_left rows d c + guard_left (is_deleting c.meta) (is_protected_claim c)

-- a pod is to be bound to a node, mounted, unmounted and finished
abbrev pub mount_left : Bool → Bool → ℕ
mount_left deleting true = 2
mount_left true false = 1
mount_left false false = 3

-- what is left for a pod
abbrev pub pod_left : Devices → PodData → ℕ
pod_left d p = if is_scheduled p then mount_left (is_deleting p.meta) (is_pod_mounted d p) else 4

-- what is left to do for an object
abbrev pub object_left : List Object → Devices → Object → ℕ
object_left rows d (Volume v) = volume_left rows d v
object_left rows d (Claim c) = claim_left rows d c
object_left rows d (Pod p) = pod_left d p
object_left rows d o = 0

-- the sum of a number over all objects
abbrev pub total : (Object → ℕ) → List Object → ℕ
total f [] = 0
total f (o ∷ os) = f o + total f os

-- what is left to do for all objects
abbrev pub left_on : List Object → Devices → ℕ
left_on rows d = total (object_left rows d) rows

-- what is left to do in a world
abbrev pub left_of : World → ℕ
left_of w = left_on w.store.rows w.devices

-- the planned device calls that are still ahead
abbrev pub faults_left : Setup → Devices → ℕ
faults_left setup d = length (filter (λ f. nat_lt d.calls f) setup.faults)

-- with the planned faults that are ahead
abbrev pub work_left : Setup → World → ℕ
work_left setup w = left_of w + faults_left setup w.devices

-- how many claims there are
abbrev pub claims_in : List Object → ℕ
claims_in [] = 0
claims_in (Claim c ∷ os) = 1 + claims_in os
claims_in (o ∷ os) = claims_in os

-- how many volumes there are
abbrev pub volumes_in : List Object → ℕ
volumes_in [] = 0
volumes_in (Volume v ∷ os) = 1 + volumes_in os
volumes_in (o ∷ os) = volumes_in os

-- how many pods there are
abbrev pub pods_in : List Object → ℕ
pods_in [] = 0
pods_in (Pod p ∷ os) = 1 + pods_in os
pods_in (o ∷ os) = pods_in os
