-- A machine of the binder begins for a volume exactly where something is due for it: to read the claim is to find that the volume is Released.
use Rattle.std.proofs.Common.{◌≡◌, ◌∙◌, List, Bool, true, false, Option, Some, None, refl, ap, if◌then◌else◌}
use Rattle.std.specs.Prelude.{◌||◌, bytes_eq, is_some, not}
use Rattle.kube_parts.specs.declared.uid.Uid.{Uid}
use Rattle.kube_parts.specs.declared.names.Due.{Due}
use Rattle.kube_parts.specs.declared.names.Due.TheVariants as dues
use Rattle.kube_types.specs.declared.lookup.Live.TheVariants.{NotAsked}
use Rattle.kube_objects.specs.declared.objects.Ref.{Ref}
use Rattle.kube_objects.specs.declared.objects.Claim.{Claim as ClaimData}
use Rattle.kube_objects.specs.declared.objects.Volume.{Volume as VolumeData}
use Rattle.kube_objects.specs.declared.objects.Object.{Object}
use Rattle.kube_objects.specs.Bindings.{is_available, is_bound, is_empty, is_ended, is_protected_volume, ref_uid}
use Rattle.kube_objects.specs.Keys.{row_at}
use Rattle.binder_model.specs.BinderDue.{claim_with, is_reclaimed, reference_due, referred_due, uid_due, volume_due}
use Rattle.binder_model.specs.ObjectKeys.{claim_key}
use Rattle.volume_sync.specs.declared.action.VolumeAction.{VolumeAction}
use Rattle.volume_sync.specs.declared.action.VolumeAction.TheVariants as actions
use Rattle.volume_sync.specs.VolumeDecision.{claim_by_reference, claim_by_uid, claimed_action, free_action, or_else, referred_action, volume_decision}
use Rattle.binder_machines.specs.FirstSteps.{queue_of, volume_first}
use Rattle.settle_due.proofs.Upkeep.Volumes.{begins_one}

module _ (v : VolumeData) where
  abbrev begins : VolumeAction → Bool
  begins action = begins_one (volume_first v action)

  -- another key is queued
  queued : (r : Option Ref) → begins_one (queue_of r) ≡ false
  queued None = refl
  queued (Some r) = refl

  free : begins (free_action v) ≡ is_some (if is_available v.phase then None else Some dues.Available)
  free = by (is_available v.phase)
    where
      by : (b : Bool) → begins (if b then actions.Nothing else actions.Available) ≡ is_some (if b then None else Some dues.Available)
      by true = refl
      by false = refl

  claimed : (c : ClaimData) → begins (claimed_action v c) ≡ is_some (referred_due v (Some c))
  unfolding referred_due
  claimed c = by (is_empty c.volume_name) (bytes_eq c.volume_name v.meta.name) (is_bound v.phase || not (is_protected_volume v)) (is_reclaimed v)
    where
      by : (empty same rests reclaimed : Bool)
          → begins (if empty then actions.QueueClaim else if same then (if rests then actions.Nothing else actions.Bound) else if reclaimed then actions.Release else actions.Unbind)
          ≡ is_some (if empty then None else if same then (if rests then None else Some dues.Bound) else if reclaimed then Some dues.Release else Some dues.Unbind)
      by true same rests reclaimed = queued v.claim_ref
      by false true true reclaimed = refl
      by false true false reclaimed = refl
      by false false rests true = refl
      by false false rests false = refl

  referred : (x : Option ClaimData) → begins (referred_action v false (or_else x None)) ≡ is_some (referred_due v x)
  unfolding referred_due
  referred None = refl
  referred (Some c) = claimed c

  unless_ended : (b : Bool) (action : VolumeAction) (due : Option Due) → begins action ≡ is_some due → begins (if b then actions.Nothing else action) ≡ is_some (if b then None else due)
  unless_ended true action due e = refl
  unless_ended false action due e = e

  -- on rows of which the claim that the volume names is the same
  module _ (seen rows : List Object) (same : (r : Ref) → row_at (claim_key r.namespace r.name) seen ≡ row_at (claim_key r.namespace r.name) rows) where
    by_uid : (r : Ref) (uid : Option Uid) → begins (if not (is_some uid) then free_action v else if is_ended v.phase then actions.Nothing else
        referred_action v false (claim_by_uid seen r uid NotAsked)) ≡ is_some (uid_due rows v r uid)
    by_uid r None = free
    by_uid r (Some uid) =
        unless_ended (is_ended v.phase) _ _
        (ap (λ x. begins (referred_action v false (or_else (claim_with uid x) None))) (same r) ∙ referred (claim_with uid (row_at (claim_key r.namespace r.name) rows)))

    by_reference : (r : Option Ref) → begins (if not (is_some (ref_uid r)) then free_action v else if is_ended v.phase then actions.Nothing else
        referred_action v false (claim_by_reference seen r NotAsked)) ≡ is_some (reference_due rows v r)
    unfolding reference_due
    by_reference None = free
    by_reference (Some r) = by_uid r r.uid

    pub volume_begins_due : begins (volume_decision seen v NotAsked) ≡ is_some (volume_due rows v)
    unfolding volume_decision volume_due
    volume_begins_due = by_reference v.claim_ref
