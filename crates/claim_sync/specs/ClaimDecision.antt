-- What the binder does about a claim, on what the look-up holds and what was read by itself.
-- Source: `syncUnboundClaim` (with `assignDefaultStorageClass`) and `syncBoundClaim` of `pv_controller.go`. That absence is
-- confirmed by a read of the volume by itself before phase Lost is written, that phase Lost is written where the phase is
-- another, that a volume without its protection finalizer is not taken, and that a match is looked for before a class is
-- assigned, are choices of this project.
use Rattle.std.specs.Prelude.{ℕ, ◌≡◌, ⊤, Bool, true, false, not, ◌&&◌, ◌||◌, List, [], Option, Some, None, is_none, is_some, slice_get, if◌then◌else◌}
use Rattle.std.specs.List.{list_any}
use Rattle.kube_parts.specs.declared.parts.Kind.TheVariants as kinds
use Rattle.kube_objects.specs.declared.objects.Volume.{Volume as VolumeData}
use Rattle.kube_objects.specs.declared.objects.Claim.{Claim as ClaimData}
use Rattle.kube_objects.specs.declared.objects.Object.{Object}
use Rattle.kube_objects.specs.declared.objects.Object.TheVariants.{Volume}
use Rattle.kube_types.specs.declared.lookup.Live.{Live}
use Rattle.kube_types.specs.declared.lookup.Live.TheVariants.{NotAsked, Absent, Present}
use Rattle.kube_objects.specs.Keys.{row_at, rows_of}
use Rattle.kube_types.specs.Defaults.{IsDefaultAt}
use Rattle.kube_objects.specs.Bindings.{carries, is_completed, is_deleting, is_empty, is_for, is_lost, is_protected_volume, is_ended, lacks_class}
use Rattle.binder_model.specs.Matching.{IsBest, fits, has_match, waits_for_pod}
use Rattle.binder_model.specs.ObjectKeys.{volume_key}
use Rattle.binder_model.specs.BindWrites.{next_write}
use Rattle.binder_model.specs.BinderDue.{has_other_uid, is_default_row}
use Rattle.volume_index.specs.VolumeIndex.{as_volume}
use Rattle.claim_sync.specs.declared.action.ClaimAction.{ClaimAction}
use Rattle.claim_sync.specs.declared.action.ClaimAction.TheVariants as actions
use Rattle.claim_sync.specs.declared.action.ClaimStep.{ClaimStep}
use Rattle.claim_sync.specs.declared.action.ClaimStep.TheVariants.{Nothing, ReadVolume, Bind, AssignClass, Lost}

-- the volume that the claim names, in the look-up
abbrev pub named_volume : List Object → ClaimData → Option VolumeData
named_volume rows c = as_volume (row_at (volume_key c.volume_name) rows)

-- the volume may not be taken anew
abbrev pub is_blocked : VolumeData → Bool
is_blocked v = is_deleting v.meta || not (is_protected_volume v) || is_ended v.phase

-- the volume may be bound by name: it fits where it has no reference, and else is for the claim
abbrev pub is_open_to : VolumeData → ClaimData → Bool
is_open_to v c = if is_none v.claim_ref then fits v c else is_for v c

-- a write of the binding would change something and may be made
abbrev pub has_write : VolumeData → ClaimData → Bool
has_write v c = (is_none v.claim_ref || carries v c) && is_some (next_write v c)

-- the claim is not completed, and names this volume, or one that the look-up lacks
abbrev pub named_step : ClaimData → Option VolumeData → ClaimStep
named_step c None = Nothing
named_step c (Some v) =
    if is_blocked v then Nothing
    else if is_open_to v c then Bind
    else Nothing

-- the claim lacks a class, and a class is marked as a default one
abbrev pub may_assign : List Object → ClaimData → Bool
may_assign rows c = lacks_class c && list_any is_default_row rows

-- the claim is not completed, and names no volume: a match is bound, and without one the default class is assigned
abbrev pub unnamed_step : List Object → ClaimData → ClaimStep
unnamed_step rows c =
    if has_match rows c then Bind
    else if may_assign rows c then AssignClass
    else Nothing

-- on a claim whose phase is Lost nothing is left to do
abbrev pub unless_lost : ClaimData → ClaimStep → ClaimStep
unless_lost c step = if is_lost c.phase then Nothing else step

-- the claim is completed, and its volume was read by itself, as the look-up does not show it with the claim. It may be
-- Lost; nothing is bound to a volume that the look-up lacks
abbrev pub read_step : ClaimData → Option VolumeData → ClaimStep
read_step c None = unless_lost c Lost
read_step c (Some v) = if has_other_uid v c then unless_lost c Lost else Nothing

-- the claim is completed, and the look-up lacks its volume: absence is confirmed by a read
abbrev pub lacking_step : ClaimData → Live → ClaimStep
lacking_step c NotAsked = unless_lost c ReadVolume
lacking_step c Absent = unless_lost c Lost
lacking_step c (Present o) = read_step c (as_volume (Some o.now))

-- the claim is completed, and the look-up shows its volume with a reference of another UID
abbrev pub other_step : ClaimData → Live → ClaimStep
other_step c NotAsked = unless_lost c Lost
other_step c Absent = unless_lost c Lost
other_step c (Present o) = read_step c (as_volume (Some o.now))

-- the claim is completed, and names this volume, or one that the look-up lacks
abbrev pub completed_step : ClaimData → Live → Option VolumeData → ClaimStep
completed_step c live None = lacking_step c live
completed_step c live (Some v) =
    if has_other_uid v c then other_step c live
    else if has_write v c then Bind
    else Nothing

-- the decision
unfoldable pub claim_decision : List Object → ClaimData → Live → ClaimStep
claim_decision rows c live =
    if is_completed c then (if is_empty c.volume_name then unless_lost c Lost else completed_step c live (named_volume rows c))
    else if is_deleting c.meta then Nothing
    else if is_empty c.volume_name then unnamed_step rows c
    else named_step c (named_volume rows c)

-- an action without its place
abbrev pub step_of : ClaimAction → ClaimStep
step_of actions.Nothing = Nothing
step_of actions.ReadVolume = ReadVolume
step_of (actions.Bind place) = Bind
step_of (actions.AssignClass place) = AssignClass
step_of actions.Lost = Lost

-- the best match where the claim names no volume, else the volume that it names
abbrev pub IsVolumeFor : Bool → List Object → ClaimData → Option ℕ → Type 0
IsVolumeFor true rows c answer = IsBest rows c None (waits_for_pod rows c) [] answer
IsVolumeFor false rows c None = row_at (volume_key c.volume_name) rows ≡ None
IsVolumeFor false rows c (Some place) = slice_get (rows_of kinds.PersistentVolume rows) place ≡ row_at (volume_key c.volume_name) rows

-- the place is that of the volume to be bound
abbrev pub BindsTo : List Object → ClaimData → ClaimAction → Type 0
BindsTo rows c (actions.Bind place) = IsVolumeFor (is_empty c.volume_name) rows c (Some place)
BindsTo rows c _ = ⊤

-- a volume stands at this place among the volumes
pub record IsVolumeAt (rows : List Object) (place : ℕ) : Type 0 where
  pub volume : VolumeData
  pub there : slice_get (rows_of kinds.PersistentVolume rows) place ≡ Some (Volume volume)

-- what is to be bound is a volume
abbrev pub BindsVolume : List Object → ClaimAction → Type 0
BindsVolume rows (actions.Bind place) = IsVolumeAt rows place
BindsVolume rows _ = ⊤

-- what is to be assigned is the default class
abbrev pub AssignsClass : List Object → ClaimAction → Type 0
AssignsClass rows (actions.AssignClass place) = IsDefaultAt rows place
AssignsClass rows _ = ⊤
