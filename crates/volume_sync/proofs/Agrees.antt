-- The decision is what is due.
use Rattle.std.proofs.Common.{◌≡◌, ◌∙◌, Bool, true, false, List, Option, Some, None, bytes_eq, refl, ap, if◌then◌else◌}
use Rattle.kube_parts.specs.declared.uid.Uid.{Uid}
use Rattle.kube_parts.specs.declared.names.Due.{Due}
use Rattle.kube_parts.specs.declared.names.Due.TheVariants as dues
use Rattle.kube_objects.specs.declared.objects.Ref.{Ref}
use Rattle.kube_objects.specs.declared.objects.Volume.{Volume as VolumeData}
use Rattle.kube_objects.specs.declared.objects.Claim.{Claim as ClaimData}
use Rattle.kube_objects.specs.declared.objects.Object.{Object}
use Rattle.kube_types.specs.declared.lookup.Live.{Live}
use Rattle.kube_objects.specs.Keys.{row_at}
use Rattle.kube_objects.specs.Bindings.{is_available, is_empty, is_ended}
use Rattle.binder_model.specs.ObjectKeys.{claim_key}
use Rattle.binder_model.specs.BinderDue.{claim_with, is_reclaimed, reference_due, referred_due, volume_due}
use Rattle.volume_sync.specs.declared.action.VolumeAction.{VolumeAction}
use Rattle.volume_sync.specs.declared.action.VolumeAction.TheVariants as actions
use Rattle.volume_sync.specs.VolumeDecision.{live_claim, or_else, referred_action, volume_decision}
use Rattle.volume_sync.specs.Conditions.{is_settled}
use Rattle.volume_sync.specs.VolumeLaw.{ReadsRows, due_of_action}

pub unreferred : (b : Bool) → due_of_action (if b then actions.Nothing else actions.Available) ≡ (if b then None else Some dues.Available)
unreferred true = refl
unreferred false = refl

pub ended : (b : Bool) (a : VolumeAction) (d : Option Due) → due_of_action a ≡ d → due_of_action (if b then actions.Nothing else a) ≡ (if b then None else d)
ended true a d e = refl
ended false a d e = e

by_name : (none this settled erased : Bool)
    → due_of_action (if none then actions.QueueClaim else if this then
    (if settled then actions.Nothing else actions.Bound) else if erased then actions.Release else actions.Unbind)
    ≡ (if none then None else if this then (if settled then None else Some dues.Bound) else if erased then Some dues.Release else Some dues.Unbind)
by_name true this settled erased = refl
by_name false true true erased = refl
by_name false true false erased = refl
by_name false false settled true = refl
by_name false false settled false = refl

pub referred : (v : VolumeData) (claim : Option ClaimData) → due_of_action (referred_action v true claim) ≡ referred_due v claim
unfolding referred_due
referred v None = refl
referred v (Some c) = by_name (is_empty c.volume_name) (bytes_eq c.volume_name v.meta.name) (is_settled v) (is_reclaimed v)

same_else : (claim other : Option ClaimData) → other ≡ claim → or_else claim other ≡ claim
same_else None other e = e
same_else (Some c) other e = refl

by_reference : (rows : List Object) (v : VolumeData) (live : Live) (reference : Option Ref)
    → ReadsRows rows (record v { claim_ref = reference }) live → due_of_action (volume_decision rows (record v { claim_ref = reference }) live) ≡ volume_due rows (record v { claim_ref = reference })
unfolding volume_decision volume_due reference_due
by_reference rows v live None reads = unreferred (is_available v.phase)
by_reference rows v live (Some r) reads = by_uid r.uid (λ uid. reads.claim r uid refl)
  where
    by_uid : (given : Option Uid) → ((uid : Uid) → live_claim uid live ≡ claim_with uid (row_at (claim_key r.namespace r.name) rows))
        → due_of_action (volume_decision rows (record v { claim_ref = Some (record r { uid = given }) }) live) ≡ volume_due rows (record v { claim_ref = Some (record r { uid = given }) })
    by_uid None read = unreferred (is_available v.phase)
    by_uid (Some uid) read =
        let w = record v { claim_ref = Some (record r { uid = Some uid }) } in
        let seen = same_else (claim_with uid (row_at (claim_key r.namespace r.name) rows)) (live_claim uid live) (read uid) in
        ended (is_ended v.phase) _ _
        (ap (λ (a : Bool). due_of_action (referred_action w a (or_else (claim_with uid (row_at (claim_key r.namespace r.name) rows)) (live_claim uid live)))) reads.asked
        ∙ (ap (λ (claim : Option ClaimData). due_of_action (referred_action w true claim)) seen
        ∙ referred w (claim_with uid (row_at (claim_key r.namespace r.name) rows))))

pub decision_due : (rows : List Object) (v : VolumeData) (live : Live) → ReadsRows rows v live → due_of_action (volume_decision rows v live) ≡ volume_due rows v
decision_due rows v live reads = by_reference rows v live v.claim_ref reads
