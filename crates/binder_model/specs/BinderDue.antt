-- What the binder has still to do for a volume and for a claim, where every look-up and live read sees the store itself.
-- Source: `syncVolume`, `syncUnboundClaim` (with `assignDefaultStorageClass`) and `syncBoundClaim` of `pv_controller.go`.
use Rattle.std.specs.Prelude.{Bool, false, not, ◌&&◌, ◌||◌, List, Option, Some, None, bytes_eq, is_none, is_some, if◌then◌else◌}
use Rattle.std.specs.List.{list_any}
use Rattle.kube_parts.specs.declared.uid.Uid.{Uid}
use Rattle.kube_parts.specs.declared.names.Due.{Due}
use Rattle.kube_parts.specs.declared.names.Due.TheVariants.{Available, Bound, Release, Unbind, Bind, AssignClass, Lost}
use Rattle.kube_objects.specs.declared.objects.Ref.{Ref}
use Rattle.kube_objects.specs.declared.objects.Volume.{Volume as VolumeData}
use Rattle.kube_objects.specs.declared.objects.Claim.{Claim as ClaimData}
use Rattle.kube_objects.specs.declared.objects.Object.{Object}
use Rattle.kube_objects.specs.declared.objects.Object.TheVariants.{Class, Volume, Claim}
use Rattle.kube_objects.specs.Keys.{row_at}
use Rattle.kube_types.specs.Defaults.{is_default}
use Rattle.kube_objects.specs.Bindings.{
  provisioned_by,
  has_key,
  lacks_class,
  is_lost,
  is_uid,
  is_available,
  is_bound,
  is_ended,
  is_delete,
  is_deleting,
  is_protected_volume,
  is_completed,
  is_empty,
  is_for,
  carries,
  ref_uid,
}
use Rattle.binder_model.specs.Matching.{fits, has_match}
use Rattle.binder_model.specs.ObjectKeys.{claim_key, volume_key}
use Rattle.binder_model.specs.BindWrites.{next_write}

-- the claim under this key that has the UID
unfoldable pub claim_with : Uid → Option Object → Option ClaimData
claim_with uid (Some (Claim c)) = if is_uid c.meta.uid uid then Some c else None
claim_with uid _ = None

-- a provisioner made the volume, and its policy is Delete
abbrev pub is_reclaimed : VolumeData → Bool
is_reclaimed v = has_key provisioned_by v.meta.annotations && is_delete v.policy

-- the volume has the UID of this claim, or of one that is gone
unfoldable pub referred_due : VolumeData → Option ClaimData → Option Due
referred_due v None = Some Release
referred_due v (Some c) =
    if is_empty c.volume_name then None
    else if bytes_eq c.volume_name v.meta.name then (if is_bound v.phase || not (is_protected_volume v) then None else Some Bound)
    else if is_reclaimed v then Some Release else Some Unbind

-- what is due by the UID of the volume's reference, if it has one
abbrev pub uid_due : List Object → VolumeData → Ref → Option Uid → Option Due
uid_due rows v r None = if is_available v.phase then None else Some Available
uid_due rows v r (Some uid) =
    if is_ended v.phase then None
    else referred_due v (claim_with uid (row_at (claim_key r.namespace r.name) rows))

-- what is due by the reference of the volume: without one it is to be Available
unfoldable pub reference_due : List Object → VolumeData → Option Ref → Option Due
reference_due rows v None = if is_available v.phase then None else Some Available
reference_due rows v (Some r) = uid_due rows v r r.uid

-- what the binder has to do for a volume
unfoldable pub volume_due : List Object → VolumeData → Option Due
volume_due rows v = reference_due rows v v.claim_ref

-- the claim names this volume, or one that is absent, and is not completed
unfoldable pub named_due : ClaimData → Option Object → Option Due
named_due c (Some (Volume v)) =
    if is_deleting v.meta || not (is_protected_volume v) || is_ended v.phase then None
    else if is_none v.claim_ref then (if fits v c then Some Bind else None)
    else if is_for v c then Some Bind else None
named_due c _ = None

-- there is a UID, and it is another than the claim's
abbrev pub is_uid_of_other : Option Uid → ClaimData → Bool
is_uid_of_other None c = false
is_uid_of_other (Some uid) c = not (is_uid c.meta.uid uid)

-- the reference has a UID, and it is not the claim's
abbrev pub has_other_uid : VolumeData → ClaimData → Bool
has_other_uid v c = is_uid_of_other (ref_uid v.claim_ref) c

-- phase Lost is written where the phase is another
abbrev pub lost_due : ClaimData → Option Due
lost_due c = if is_lost c.phase then None else Some Lost

-- the claim is completed and names this volume, or one that is absent
unfoldable pub completed_due : ClaimData → Option Object → Option Due
completed_due c (Some (Volume v)) =
    if has_other_uid v c then lost_due c
    else if (is_none v.claim_ref || carries v c) && is_some (next_write v c) then Some Bind
    else None
completed_due c _ = lost_due c

-- a class that is marked as a default one
abbrev pub is_default_row : Object → Bool
is_default_row (Class x) = is_default x
is_default_row o = false

-- no volume can be taken: a claim without a class gets the default one, where there is one. That a match is looked for
-- first is this project's choice
abbrev pub class_due : List Object → ClaimData → Option Due
class_due rows c = if lacks_class c && list_any is_default_row rows then Some AssignClass else None

-- what the binder has to do for a claim. One that is deleting and not completed is let go
unfoldable pub claim_due : List Object → ClaimData → Option Due
claim_due rows c =
    if is_completed c then (if is_empty c.volume_name then lost_due c else completed_due c (row_at (volume_key c.volume_name) rows))
    else if is_deleting c.meta then None
    else if is_empty c.volume_name then (if has_match rows c then Some Bind else class_due rows c)
    else named_due c (row_at (volume_key c.volume_name) rows)

-- what the binder has to do for an object of the store
unfoldable pub binder_due : List Object → Object → Option Due
binder_due rows (Volume v) = volume_due rows v
binder_due rows (Claim c) = claim_due rows c
binder_due rows o = None
