-- What the binder has under way for one key: the next call of each machine, and what the answer to it makes of the machine.
-- Source: `syncVolume`, `syncUnboundClaim` (with `assignDefaultStorageClass`), `syncBoundClaim`, `bind` and `unbindVolume` of `pv_controller.go`. That a claim or a volume is
-- read by itself before phase Released or Lost is written is a choice of this project.
use Rattle.std.specs.Prelude.{Bool, true, false, not, ◌&&◌, ◌||◌, Option, Some, None, bytes_eq, is_none, is_some, if◌then◌else◌}
use Rattle.kube_parts.specs.declared.uid.Uid.{Uid}
use Rattle.kube_parts.specs.declared.parts.ClaimPhase.TheVariants as claims
use Rattle.kube_parts.specs.declared.parts.VolumePhase.{VolumePhase}
use Rattle.kube_parts.specs.declared.parts.VolumePhase.TheVariants as volumes
use Rattle.kube_objects.specs.declared.objects.Ref.{Ref}
use Rattle.kube_objects.specs.declared.objects.Volume.{Volume as VolumeData}
use Rattle.kube_objects.specs.declared.objects.Claim.{Claim as ClaimData}
use Rattle.kube_objects.specs.declared.objects.Class.{Class as ClassData}
use Rattle.kube_objects.specs.declared.objects.Object.{Object}
use Rattle.kube_objects.specs.declared.objects.Object.TheVariants.{Volume, Claim}
use Rattle.kube_objects.specs.Bindings.{is_completed, is_empty, is_ended, is_for, ref_uid}
use Rattle.call_types.specs.declared.request.Request.{Request}
use Rattle.call_types.specs.declared.request.Request.TheVariants.{Get, Update, UpdateStatus}
use Rattle.call_types.specs.declared.request.NewStatus.TheVariants as statuses
use Rattle.call_types.specs.declared.reply.Refusal.TheVariants.{NotFound}
use Rattle.call_types.specs.declared.reply.Reply.{Reply}
use Rattle.call_types.specs.declared.reply.Reply.TheVariants.{Done, Found, Refused}
use Rattle.binder_model.specs.ObjectKeys.{claim_key, volume_key}
use Rattle.binder_model.specs.BindWrites.{next_write, write_unbound}
use Rattle.binder_model.specs.BinderDue.{claim_with}
use Rattle.volume_index.specs.VolumeIndex.{as_volume}
use Rattle.claim_sync.specs.ClaimDecision.{read_step, unless_lost}
use Rattle.claim_sync.specs.declared.action.ClaimStep.{ClaimStep}
use Rattle.claim_sync.specs.declared.action.ClaimStep.TheVariants as steps
use Rattle.volume_sync.specs.VolumeDecision.{free_action, refers_by_uid, referred_action}
use Rattle.volume_sync.specs.declared.action.VolumeAction.{VolumeAction}
use Rattle.volume_sync.specs.declared.action.VolumeAction.TheVariants as actions
use Rattle.binder_machines.specs.declared.machine.Machine.{Machine}
use Rattle.binder_machines.specs.declared.machine.Machine.TheVariants.{Frees, Binds, MarksBound, ReadsClaim, Releases, Unbinds, ReadsVolume, AssignsClass, Loses}

-- the next call

-- The claim has a UID and names this volume or none, and the volume has no reference or is for it. Each pair on which a binding is decided
-- is so (an object has a UID from its creation on), and so is what the writes answer, which is what was written. So the test fails in no history
abbrev pub may_bind : VolumeData → ClaimData → Bool
may_bind v c =
    is_some c.meta.uid && is_empty v.meta.namespace && (is_none v.claim_ref || is_for v c) && (is_empty c.volume_name || bytes_eq c.volume_name v.meta.name)

-- the write of a phase of the volume
abbrev pub write_phase : VolumeData → VolumePhase → Request
write_phase v phase = UpdateStatus (volume_key v.meta.name) (statuses.Volume phase) (Some v.meta.version)

-- A volume has no namespace: no store takes one that has. So the test fails in no history
abbrev pub phase_call : VolumeData → VolumePhase → Option Request
phase_call v phase = if is_empty v.meta.namespace then Some (write_phase v phase) else None

-- the access modes and the capacity stay
abbrev pub write_lost : ClaimData → Request
write_lost c =
    UpdateStatus (claim_key c.meta.namespace c.meta.name)
    (statuses.Claim claims.Lost c.got_modes c.got) (Some c.meta.version)

-- the claim with the name of the class, and nothing else changed
abbrev pub assigned : ClaimData → ClassData → ClaimData
assigned c x = record c { class = Some x.meta.name }

-- the write of the class's name into the claim
abbrev pub write_class : ClaimData → ClassData → Request
write_class c x = Update (Claim (assigned c x)) (Some c.meta.version)

-- An object has a UID from its creation on, and a class has no namespace: no store takes one that has. So the tests fail in no history
abbrev pub class_call : ClaimData → ClassData → Option Request
class_call c x = if is_some c.meta.uid && is_empty x.meta.namespace then Some (write_class c x) else None

-- the next of the four writes
abbrev pub bind_call : VolumeData → ClaimData → Option Request
bind_call v c = if may_bind v c then next_write v c else None

-- the read of the claim that the reference names
abbrev pub read_of : Option Ref → Option Request
read_of None = None
read_of (Some r) = Some (Get (claim_key r.namespace r.name))

-- An object has a UID from its creation on. So the tests of it fail in no history
abbrev pub claim_call : VolumeData → Option Request
claim_call v = if is_empty v.meta.namespace && is_some v.meta.uid then read_of v.claim_ref else None

-- the read of the volume that the claim names
abbrev pub volume_call : ClaimData → Option Request
volume_call c = if is_some c.meta.uid then Some (Get (volume_key c.volume_name)) else None

-- the next call of a machine
unfoldable pub call_of : Machine → Option Request
call_of (Frees v) = phase_call v volumes.Available
call_of (Binds v c) = bind_call v c
call_of (MarksBound v) = phase_call v volumes.Bound
call_of (ReadsClaim v) = claim_call v
call_of (Releases v) = phase_call v volumes.Released
call_of (Unbinds v) = Some (write_unbound v)
call_of (ReadsVolume c) = volume_call c
call_of (AssignsClass c x) = class_call c x
call_of (Loses c) = Some (write_lost c)

-- what a decision begins

-- the machine that does what was decided for a volume
abbrev pub machine_for : VolumeData → VolumeAction → Option Machine
machine_for v actions.Nothing = None
machine_for v actions.ReadClaim = Some (ReadsClaim v)
machine_for v actions.Available = Some (Frees v)
machine_for v actions.Bound = Some (MarksBound v)
machine_for v actions.Release = Some (Releases v)
machine_for v actions.Unbind = Some (Unbinds v)
machine_for v actions.QueueClaim = None

-- once the volume was read by itself
abbrev pub confirmed_for : ClaimData → ClaimStep → Option Machine
confirmed_for c steps.Lost = Some (Loses c)
confirmed_for c _ = None

-- the decisions after a read

-- the claim that stands there, if it has this UID
abbrev pub claim_of_uid : Option Uid → Option Object → Option ClaimData
claim_of_uid None o = None
claim_of_uid (Some uid) o = claim_with uid o

-- the decision on a volume, where the claim of its reference was read by itself and this was found
unfoldable pub volume_read : VolumeData → Option Object → VolumeAction
volume_read v o =
    if not (refers_by_uid v) then free_action v
    else if is_ended v.phase then actions.Nothing
    else referred_action v true (claim_of_uid (ref_uid v.claim_ref) o)

-- the decision on a claim, where the volume that it names was read by itself and this was found
unfoldable pub claim_read : ClaimData → Option Object → ClaimStep
claim_read c o =
    if is_completed c then (if is_empty c.volume_name then unless_lost c steps.Lost else read_step c (as_volume o))
    else steps.Nothing

-- what the answer to the next call makes of the machine, or none where it has ended

-- After unbinding phase Available is written where the phase is another. The volume that was answered is the one that was written, so it
-- has no UID in its reference: the test fails in no history
abbrev pub unbound_to : VolumeData → Option Machine
unbound_to v = if refers_by_uid v then None else machine_for v (free_action v)

-- A claim that was read and names no volume is not queued: the caches lack it, so that its key has nothing to be decided on yet. The event
-- that tells the claim queues it
unfoldable pub moved : Machine → Reply → Option Machine
moved (Binds v c) (Done (Volume w)) = Some (Binds w c)
moved (Binds v c) (Done (Claim d)) = Some (Binds v d)
moved (Unbinds v) (Done (Volume w)) = unbound_to w
moved (ReadsClaim v) (Refused NotFound) = machine_for v (volume_read v None)
moved (ReadsClaim v) (Found o) = machine_for v (volume_read v (Some o))
moved (ReadsVolume c) (Refused NotFound) = confirmed_for c (claim_read c None)
moved (ReadsVolume c) (Found o) = confirmed_for c (claim_read c (Some o))
moved machine reply = None

-- a refusal that the machine does not take as an answer. That a read found nothing is an answer
unfoldable pub parks_at : Machine → Reply → Bool
parks_at (ReadsClaim v) (Refused NotFound) = false
parks_at (ReadsVolume c) (Refused NotFound) = false
parks_at machine (Refused refusal) = true
parks_at machine reply = false
