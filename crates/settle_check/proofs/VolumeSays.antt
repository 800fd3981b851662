-- The row of a volume's conditions has what is due for the volume.
use Rattle.std.proofs.Common.{ℕ, ◌≡◌, ◌∙◌, Bool, true, false, not, ◌&&◌, ◌||◌, if◌then◌else◌, List, Option, Some, None, is_some, refl, ap, ap₂}
use Rattle.kube_parts.specs.declared.uid.Uid.{Uid}
use Rattle.kube_parts.specs.declared.names.Due.{Due}
use Rattle.kube_parts.specs.declared.names.Due.TheVariants as dues
use Rattle.kube_objects.specs.declared.objects.Ref.{Ref}
use Rattle.kube_objects.specs.declared.objects.Claim.{Claim as ClaimData}
use Rattle.kube_objects.specs.declared.objects.Volume.{Volume as VolumeData}
use Rattle.kube_objects.specs.declared.objects.Object.{Object}
use Rattle.kube_objects.specs.Bindings.{is_available, is_bound, is_delete, is_deleting, is_ended, is_protected_volume}
use Rattle.kube_objects.specs.Keys.{row_at}
use Rattle.binder_model.specs.BinderDue.{claim_with, is_reclaimed, reference_due, volume_due}
use Rattle.binder_model.specs.Due.{guard_due, or_due, reclaim_due, volume_guard_due}
use Rattle.binder_model.specs.ObjectKeys.{claim_key}
use Rattle.case_table.specs.declared.rows.CaseRow.{CaseRow}
use Rattle.case_table.specs.Cases.{action_of}
use Rattle.volume_sync.specs.declared.action.VolumeAction.{VolumeAction}
use Rattle.volume_sync.specs.declared.action.VolumeAction.TheVariants as actions
use Rattle.volume_sync.specs.Conditions.{conditions_on, is_settled, names, names_none}
use Rattle.volume_sync.specs.VolumeDecision.{free_action, referred_action, refers_by_uid}
use Rattle.volume_sync.specs.VolumeLaw.{due_of_action}
use Rattle.volume_sync.proofs.Agrees.{ended, referred, unreferred}
use Rattle.volume_sync.proofs.Says.{chosen_is}
use Rattle.settle_check.specs.DueTables.{due_number, due_numbered}
use Rattle.settle_check.specs.Steps.OnStore.{claim_referred, claim_of_uid, volume_conditions}
use Rattle.settle_check.specs.VolumeDues.{volume_due_rows}
use Rattle.settle_check.proofs.Numbered.{numbered_back}
use Rattle.settle_check.proofs.VolumeRows.{rows_say}

-- what the binder decides where the store itself is seen
abbrev decided : VolumeData → Option ClaimData → VolumeAction
decided v claim = if not (refers_by_uid v) then free_action v else if is_ended v.phase then actions.Nothing else referred_action v true claim

binder_agrees : (rows : List Object) (v : VolumeData) (reference : Option Ref)
    → due_of_action (decided (record v { claim_ref = reference }) (claim_referred rows reference)) ≡ volume_due rows (record v { claim_ref = reference })
unfolding volume_due reference_due
binder_agrees rows v None = unreferred (is_available v.phase)
binder_agrees rows v (Some r) = by_uid r.uid
  where
    by_uid : (given : Option Uid) → due_of_action (decided (record v { claim_ref = Some (record r { uid = given }) }) (claim_of_uid rows r given)) ≡
        volume_due rows (record v { claim_ref = Some (record r { uid = given }) })
    by_uid None = unreferred (is_available v.phase)
    by_uid (Some uid) =
        let w = record v { claim_ref = Some (record r { uid = Some uid }) } in
        ended (is_ended v.phase) _ _ (referred w (claim_with uid (row_at (claim_key r.namespace r.name) rows)))

-- protection: a volume that has its finalizer is Bound where it is settled
guard_agrees : (deleting protected bound : Bool)
    → (if deleting then (if bound || not protected then None else Some dues.Unguard) else if protected then None else Some dues.Guard) ≡ guard_due deleting protected bound
guard_agrees true true true = refl
guard_agrees true true false = refl
guard_agrees true false true = refl
guard_agrees true false false = refl
guard_agrees false true bound = refl
guard_agrees false false bound = refl

reclaim_agrees : (refers ended delete deleting : Bool) (next : Option Due)
    → (if refers && (ended && (delete && not deleting)) then Some dues.Reclaim else next) ≡ or_due (if ended && delete && refers && not deleting then Some dues.Reclaim else None) next
unfolding or_due
reclaim_agrees true true true true next = refl
reclaim_agrees true true true false next = refl
reclaim_agrees true true false deleting next = refl
reclaim_agrees true false delete deleting next = refl
reclaim_agrees false true true deleting next = refl
reclaim_agrees false true false deleting next = refl
reclaim_agrees false false delete deleting next = refl

says : (rows : List Object) (v : VolumeData)
    → action_of volume_due_rows (volume_conditions v (claim_referred rows v.claim_ref)) ≡ due_number (or_due (volume_due rows v) (or_due (reclaim_due v) (volume_guard_due v)))
unfolding conditions_on
says rows v =
    let claim = claim_referred rows v.claim_ref in
    rows_say (refers_by_uid v) (is_available v.phase) (is_ended v.phase) (is_some claim) (names_none claim) (names claim v) (is_settled v)
    (is_reclaimed v) (is_delete v.policy) (is_deleting v.meta) (is_protected_volume v)
    ∙ ap due_number
    (ap₂ or_due
    (ap due_of_action (chosen_is v true claim) ∙ binder_agrees rows v v.claim_ref)
    (reclaim_agrees (refers_by_uid v) (is_ended v.phase) (is_delete v.policy) (is_deleting v.meta) _
    ∙ ap (or_due (reclaim_due v)) (guard_agrees (is_deleting v.meta) (is_protected_volume v) (is_bound v.phase))))

-- what the code reads off the table is what is due
pub read_off : (rows : List Object) (v : VolumeData) (claim : Option ClaimData) (table : List (CaseRow 11)) (conditions : List Bool) (number : ℕ)
    (answer : Option Due) → claim ≡ claim_referred rows v.claim_ref → table ≡ volume_due_rows → conditions ≡ volume_conditions v claim
    → number ≡ action_of table conditions → answer ≡ due_numbered number → answer ≡ or_due (volume_due rows v) (or_due (reclaim_due v) (volume_guard_due v))
read_off rows v claim table conditions number answer seen rows_are conditions_are picked numbered =
    numbered
    ∙ (ap due_numbered picked
    ∙ (ap (λ (t : List (CaseRow 11)). due_numbered (action_of t conditions)) rows_are
    ∙ (ap (λ (cs : List Bool). due_numbered (action_of volume_due_rows cs)) conditions_are
    ∙ (ap (λ (o : Option ClaimData). due_numbered (action_of volume_due_rows (volume_conditions v o))) seen
    ∙ (ap due_numbered (says rows v)
    ∙ numbered_back (or_due (volume_due rows v) (or_due (reclaim_due v) (volume_guard_due v))))))))
