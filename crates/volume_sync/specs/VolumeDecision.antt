-- What the binder does about a volume, on what the look-up holds and what was read by itself.
-- Source: `syncVolume` of `pv_controller.go`. That a volume without its protection finalizer is not bound is a choice of
-- this project.
use Rattle.std.specs.Prelude.{Bool, not, ◌||◌, List, Option, Some, None, bytes_eq, is_some, if◌then◌else◌}
use Rattle.kube_parts.specs.declared.uid.Uid.{Uid}
use Rattle.kube_objects.specs.declared.objects.Ref.{Ref}
use Rattle.kube_objects.specs.declared.objects.Volume.{Volume as VolumeData}
use Rattle.kube_objects.specs.declared.objects.Claim.{Claim as ClaimData}
use Rattle.kube_objects.specs.declared.objects.Object.{Object}
use Rattle.kube_types.specs.declared.lookup.Live.{Live}
use Rattle.kube_types.specs.declared.lookup.Live.TheVariants.{NotAsked, Absent, Present}
use Rattle.kube_objects.specs.Keys.{row_at}
use Rattle.kube_types.specs.Lookups.{is_asked}
use Rattle.kube_objects.specs.Bindings.{is_available, is_bound, is_empty, is_protected_volume, is_ended, ref_uid}
use Rattle.binder_model.specs.ObjectKeys.{claim_key}
use Rattle.binder_model.specs.BinderDue.{claim_with, is_reclaimed}
use Rattle.volume_sync.specs.declared.action.VolumeAction.{VolumeAction}
use Rattle.volume_sync.specs.declared.action.VolumeAction.TheVariants.{Nothing, ReadClaim, Available, Bound, Release, Unbind, QueueClaim}

-- the reference names a claim with its UID
abbrev pub refers_by_uid : VolumeData → Bool
refers_by_uid v = is_some (ref_uid v.claim_ref)

-- the claim of the UID, as it was read by itself
abbrev pub live_claim : Uid → Live → Option ClaimData
live_claim uid NotAsked = None
live_claim uid Absent = None
live_claim uid (Present o) = claim_with uid (Some o.now)

-- the first claim that is there
abbrev pub or_else : Option ClaimData → Option ClaimData → Option ClaimData
or_else (Some c) other = Some c
or_else None other = other

-- the claim of the UID: the row of the look-up, else the one that was read by itself
abbrev pub claim_of : List Object → Ref → Uid → Live → Option ClaimData
claim_of rows r uid live = or_else (claim_with uid (row_at (claim_key r.namespace r.name) rows)) (live_claim uid live)

-- the claim of a reference with this UID
abbrev pub claim_by_uid : List Object → Ref → Option Uid → Live → Option ClaimData
claim_by_uid rows r None live = None
claim_by_uid rows r (Some uid) live = claim_of rows r uid live

-- the claim to which the volume refers
abbrev pub claim_by_reference : List Object → Option Ref → Live → Option ClaimData
claim_by_reference rows None live = None
claim_by_reference rows (Some r) live = claim_by_uid rows r r.uid live

-- the claim that the volume's reference names with its UID
abbrev pub seen_claim : List Object → VolumeData → Live → Option ClaimData
seen_claim rows v live = claim_by_reference rows v.claim_ref live

-- the reference has no UID
abbrev pub free_action : VolumeData → VolumeAction
free_action v = if is_available v.phase then Nothing else Available

-- the claim with the UID of the reference is there
abbrev pub claimed_action : VolumeData → ClaimData → VolumeAction
claimed_action v c =
    if is_empty c.volume_name then QueueClaim
    else if bytes_eq c.volume_name v.meta.name then (if is_bound v.phase || not (is_protected_volume v) then Nothing else Bound)
    else if is_reclaimed v then Release
    else Unbind

-- the reference has the UID of this claim, or of one that is not seen: absence is confirmed by a read
abbrev pub referred_action : VolumeData → Bool → Option ClaimData → VolumeAction
referred_action v asked None = if asked then Release else ReadClaim
referred_action v asked (Some c) = claimed_action v c

-- the decision
unfoldable pub volume_decision : List Object → VolumeData → Live → VolumeAction
volume_decision rows v live =
    if not (refers_by_uid v) then free_action v
    else if is_ended v.phase then Nothing
    else referred_action v (is_asked live) (seen_claim rows v live)
