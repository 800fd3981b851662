-- The table picks the decision.
use Rattle.std.proofs.Common.{ℕ, ◌≡◌, ◌∙◌, Bool, not, if◌then◌else◌, List, Option, Some, None, is_some, refl, ap}
use Rattle.kube_objects.specs.declared.objects.Volume.{Volume as VolumeData}
use Rattle.kube_objects.specs.declared.objects.Claim.{Claim as ClaimData}
use Rattle.kube_objects.specs.declared.objects.Object.{Object}
use Rattle.kube_types.specs.declared.lookup.Live.{Live}
use Rattle.kube_objects.specs.Bindings.{is_available, is_ended}
use Rattle.kube_types.specs.Lookups.{is_asked}
use Rattle.binder_model.specs.BinderDue.{is_reclaimed}
use Rattle.case_table.specs.declared.rows.CaseRow.{CaseRow}
use Rattle.case_table.specs.Cases.{action_of}
use Rattle.volume_sync.specs.declared.action.VolumeAction.{VolumeAction}
use Rattle.volume_sync.specs.declared.action.VolumeAction.TheVariants as actions
use Rattle.volume_sync.specs.VolumeTable.{action_number, action_numbered, volume_rows}
use Rattle.volume_sync.specs.VolumeDecision.{free_action, refers_by_uid, referred_action, seen_claim, volume_decision}
use Rattle.volume_sync.specs.Conditions.{conditions_on, is_settled, names, names_none, volume_conditions}
use Rattle.volume_sync.proofs.Rows.{chosen, rows_say}

numbered_back : (a : VolumeAction) → action_numbered (action_number a) ≡ a
numbered_back actions.Nothing = refl
numbered_back actions.ReadClaim = refl
numbered_back actions.Available = refl
numbered_back actions.Bound = refl
numbered_back actions.Release = refl
numbered_back actions.Unbind = refl
numbered_back actions.QueueClaim = refl

pub chosen_is : (v : VolumeData) (asked : Bool) (claim : Option ClaimData)
    → chosen (refers_by_uid v) (is_available v.phase) (is_ended v.phase) (is_some claim) asked (names_none claim) (names claim v) (is_settled v)
    (is_reclaimed v) ≡ (if not (refers_by_uid v) then free_action v else if is_ended v.phase then actions.Nothing else referred_action v asked claim)
chosen_is v asked None = refl
chosen_is v asked (Some c) = refl

pub picks : (rows : List Object) (v : VolumeData) (live : Live) → action_of volume_rows (volume_conditions rows v live) ≡ action_number (volume_decision rows v live)
unfolding conditions_on volume_decision
picks rows v live =
    rows_say (refers_by_uid v) (is_available v.phase) (is_ended v.phase) (is_some (seen_claim rows v live)) (is_asked live)
    (names_none (seen_claim rows v live)) (names (seen_claim rows v live) v) (is_settled v) (is_reclaimed v)
    ∙ ap action_number (chosen_is v (is_asked live) (seen_claim rows v live))

-- what the code reads off the table is the decision
pub read_off : (rows : List Object) (v : VolumeData) (live : Live) (claim : Option ClaimData) (asked : Bool) (table : List (CaseRow 9))
    (conditions : List Bool) (number : ℕ) (answer : VolumeAction) → claim ≡ seen_claim rows v live → asked ≡ is_asked live → table ≡ volume_rows
    → conditions ≡ conditions_on v asked claim → number ≡ action_of table conditions → answer ≡ action_numbered number → answer ≡ volume_decision rows v live
read_off rows v live claim asked table conditions number answer seen ask rows_are conditions_are picked numbered =
    numbered
    ∙ (ap action_numbered picked
    ∙ (ap (λ (t : List (CaseRow 9)). action_numbered (action_of t conditions)) rows_are
    ∙ (ap (λ (cs : List Bool). action_numbered (action_of volume_rows cs)) conditions_are
    ∙ (ap (λ (a : Bool). action_numbered (action_of volume_rows (conditions_on v a claim))) ask
    ∙ (ap (λ (o : Option ClaimData). action_numbered (action_of volume_rows (conditions_on v (is_asked live) o))) seen
    ∙ (ap action_numbered (picks rows v live)
    ∙ numbered_back (volume_decision rows v live)))))))
