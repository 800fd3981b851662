-- The four writes of a binding, in order, each at the version of the object on which it was decided; and unbinding.
-- Source: `bind` and `unbindVolume` of `pv_controller.go`. That a write over Released or Failed, or Bound without the
-- protection finalizer, is not made is this project's choice.
use Rattle.std.specs.Prelude.{ℕ, Bool, true, false, not, ◌&&◌, ◌||◌, List, Option, Some, None, bytes_eq, is_none, if◌then◌else◌}
use Rattle.plain_data.specs.Pairs.{put_pair, without_key}
use Rattle.kube_parts.specs.declared.parts.ClaimPhase.{ClaimPhase}
use Rattle.kube_parts.specs.declared.parts.ClaimPhase.TheVariants as claims
use Rattle.kube_parts.specs.declared.parts.VolumePhase.TheVariants as volumes
use Rattle.kube_objects.specs.declared.objects.Meta.{Meta}
use Rattle.kube_objects.specs.declared.objects.Ref.{Ref}
use Rattle.kube_objects.specs.declared.objects.Volume.{Volume as VolumeData}
use Rattle.kube_objects.specs.declared.objects.Claim.{Claim as ClaimData}
use Rattle.kube_objects.specs.declared.objects.Object.TheVariants.{Volume, Claim}
use Rattle.kube_objects.specs.Bindings.{bind_completed, bound_by_controller, yes, has_key, is_bound, is_ended, is_protected_volume, is_completed, is_empty, carries}
use Rattle.call_types.specs.declared.request.NewStatus.TheVariants as statuses
use Rattle.call_types.specs.declared.request.Request.{Request}
use Rattle.call_types.specs.declared.request.Request.TheVariants.{Update, UpdateStatus}
use Rattle.binder_model.specs.ObjectKeys.{claim_key, volume_key}
use Rattle.binder_model.specs.Same.{same_option, same_amount, same_modes}

-- the reference that names the claim with its UID
abbrev pub ref_to : ClaimData → Ref
ref_to c = record { namespace = c.meta.namespace; name = c.meta.name; uid = c.meta.uid }

-- the metadata with one of the binder's annotations set
abbrev pub annotated_meta : List ℕ → Meta → Meta
annotated_meta name m = record m { annotations = put_pair name yes m.annotations }

-- the annotation is set where the test holds
abbrev pub annotated_meta_if : Bool → List ℕ → Meta → Meta
annotated_meta_if true name m = annotated_meta name m
annotated_meta_if false name m = m

-- the first write: the volume with the claim's reference, marked as the controller's work where no user had pre-bound it
unfoldable pub taken_for : VolumeData → ClaimData → VolumeData
taken_for v c = record v { claim_ref = Some (ref_to c); meta = annotated_meta_if (is_none v.claim_ref) bound_by_controller v.meta }

-- the third write: the claim names the volume and is completed, marked as the controller's work where it named none
unfoldable pub completed_with : ClaimData → VolumeData → ClaimData
completed_with c v = record c { volume_name = v.meta.name; meta = annotated_meta bind_completed (annotated_meta_if (is_empty c.volume_name) bound_by_controller c.meta) }

-- the request for the first write, at the version of the volume
abbrev pub write_reference : VolumeData → ClaimData → Request
write_reference v c = Update (Volume (taken_for v c)) (Some v.meta.version)

-- the second write: the volume's phase Bound
abbrev pub write_bound : VolumeData → Request
write_bound v = UpdateStatus (volume_key v.meta.name) (statuses.Volume volumes.Bound) (Some v.meta.version)

-- the request for the third write, at the version of the claim
abbrev pub write_completion : VolumeData → ClaimData → Request
write_completion v c = Update (Claim (completed_with c v)) (Some c.meta.version)

-- the fourth write: phase Bound with the volume's access modes and capacity
abbrev pub write_claim_status : VolumeData → ClaimData → Request
write_claim_status v c =
    UpdateStatus (claim_key c.meta.namespace c.meta.name) (statuses.Claim claims.Bound v.modes (Some v.amount)) (Some c.meta.version)

-- the claim's phase is Bound
abbrev pub is_claim_bound : ClaimPhase → Bool
is_claim_bound claims.Bound = true
is_claim_bound _ = false

-- the claim names the volume and is completed
abbrev pub is_completed_with : ClaimData → VolumeData → Bool
is_completed_with c v = is_completed c && bytes_eq c.volume_name v.meta.name

-- the claim's status is that of one bound to the volume
abbrev pub shows_bound : ClaimData → VolumeData → Bool
shows_bound c v = is_claim_bound c.phase && same_modes c.got_modes v.modes && same_option same_amount c.got (Some v.amount)

-- the writes on the claim that would change anything
unfoldable pub claim_write : VolumeData → ClaimData → Option Request
claim_write v c =
    if not (is_completed_with c v) then Some (write_completion v c)
    else if not (shows_bound c v) then Some (write_claim_status v c)
    else None

-- the first of the four writes that would change anything, or none where none would or the next one may not be made
unfoldable pub next_write : VolumeData → ClaimData → Option Request
next_write v c =
    if not (carries v c) then (if is_ended v.phase then None else Some (write_reference v c))
    else if not (is_bound v.phase) then (if is_ended v.phase || not (is_protected_volume v) then None else Some (write_bound v))
    else claim_write v c

-- unbinding: the whole reference goes where the controller had made it, else its UID alone
abbrev pub without_uid : Option Ref → Option Ref
without_uid None = None
without_uid (Some r) = Some (record r { uid = None })

-- the volume unbound: free where the controller had bound it, else still reserved for a claim of that name
unfoldable pub unbound_volume : VolumeData → VolumeData
unbound_volume v =
    if has_key bound_by_controller v.meta.annotations
    then record v { claim_ref = None; meta = record v.meta { annotations = without_key bound_by_controller v.meta.annotations } }
    else record v { claim_ref = without_uid v.claim_ref }

-- the request that unbinds the volume, at its version
abbrev pub write_unbound : VolumeData → Request
write_unbound v = Update (Volume (unbound_volume v)) (Some v.meta.version)

-- the request that sets the volume's phase to Available, at its version
abbrev pub write_available : VolumeData → Request
write_available v = UpdateStatus (volume_key v.meta.name) (statuses.Volume volumes.Available) (Some v.meta.version)
