-- Where the look-up and each read see the store itself, the decision on a claim is what is due for it. A choice of this project.
use Rattle.std.specs.Prelude.{◌≡◌, true, List, Option, Some, None}
use Rattle.kube_parts.specs.declared.names.Due.{Due}
use Rattle.kube_parts.specs.declared.names.Due.TheVariants as dues
use Rattle.kube_objects.specs.declared.objects.Claim.{Claim as ClaimData}
use Rattle.kube_objects.specs.declared.objects.Object.{Object}
use Rattle.kube_types.specs.declared.lookup.Live.{Live}
use Rattle.binder_model.specs.BinderDue.{claim_due}
use Rattle.claim_sync.specs.declared.action.ClaimStep.{ClaimStep}
use Rattle.claim_sync.specs.declared.action.ClaimStep.TheVariants as steps
use Rattle.kube_types.specs.Lookups.{is_asked}
use Rattle.claim_sync.specs.ClaimDecision.{claim_decision, named_volume}
use Rattle.claim_sync.specs.Conditions.{live_volume}

-- to read the volume is never due
abbrev pub due_of : ClaimStep → Option Due
due_of steps.Nothing = None
due_of steps.ReadVolume = None
due_of steps.Bind = Some dues.Bind
due_of steps.AssignClass = Some dues.AssignClass
due_of steps.Lost = Some dues.Lost

-- the volume was read by itself, and what was read is what the rows hold
pub record ReadsRows (rows : List Object) (c : ClaimData) (live : Live) : Type 0 where
  pub asked : is_asked live ≡ true
  pub volume : live_volume live ≡ named_volume rows c

-- what is decided for a claim is what is due for it
abbrev pub DecidesDue : Type 0
DecidesDue = (rows : List Object) (c : ClaimData) (live : Live) → ReadsRows rows c live → due_of (claim_decision rows c live) ≡ claim_due rows c
