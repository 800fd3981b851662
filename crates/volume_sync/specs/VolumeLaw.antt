-- Where the look-up and each read see the store itself, the decision on a volume is what is due for it. A choice of this project.
use Rattle.std.specs.Prelude.{◌≡◌, true, List, Option, Some, None}
use Rattle.kube_parts.specs.declared.uid.Uid.{Uid}
use Rattle.kube_parts.specs.declared.names.Due.{Due}
use Rattle.kube_parts.specs.declared.names.Due.TheVariants as dues
use Rattle.kube_objects.specs.declared.objects.Ref.{Ref}
use Rattle.kube_objects.specs.declared.objects.Volume.{Volume as VolumeData}
use Rattle.kube_objects.specs.declared.objects.Object.{Object}
use Rattle.kube_types.specs.declared.lookup.Live.{Live}
use Rattle.kube_objects.specs.Keys.{row_at}
use Rattle.binder_model.specs.ObjectKeys.{claim_key}
use Rattle.binder_model.specs.BinderDue.{claim_with, volume_due}
use Rattle.volume_sync.specs.declared.action.VolumeAction.{VolumeAction}
use Rattle.volume_sync.specs.declared.action.VolumeAction.TheVariants as actions
use Rattle.kube_types.specs.Lookups.{is_asked}
use Rattle.volume_sync.specs.VolumeDecision.{live_claim, volume_decision}

-- to read or to queue the claim is never due
abbrev pub due_of_action : VolumeAction → Option Due
due_of_action actions.Nothing = None
due_of_action actions.ReadClaim = None
due_of_action actions.Available = Some dues.Available
due_of_action actions.Bound = Some dues.Bound
due_of_action actions.Release = Some dues.Release
due_of_action actions.Unbind = Some dues.Unbind
due_of_action actions.QueueClaim = None

-- the claim was read by itself, and what was read is what the rows hold
pub record ReadsRows (rows : List Object) (v : VolumeData) (live : Live) : Type 0 where
  pub asked : is_asked live ≡ true
  pub claim : (r : Ref) (uid : Uid) → v.claim_ref ≡ Some r → live_claim uid live ≡ claim_with uid (row_at (claim_key r.namespace r.name) rows)

-- what is decided for a volume is what is due for it
abbrev pub DecidesDue : Type 0
DecidesDue = (rows : List Object) (v : VolumeData) (live : Live) → ReadsRows rows v live → due_of_action (volume_decision rows v live) ≡ volume_due rows v
