-- The row of a claim's conditions has what protection has to do for the claim, or else the binder.
use Rattle.std.proofs.Common.{ℕ, ◌≡◌, ◌∙◌, Bool, true, false, not, ◌&&◌, if◌then◌else◌, List, Option, Some, None, is_none, is_some, refl, sym, ap}
use Rattle.std.specs.List.{list_any}
use Rattle.kube_parts.specs.declared.names.Due.{Due}
use Rattle.kube_parts.specs.declared.names.Due.TheVariants as dues
use Rattle.kube_objects.specs.declared.objects.Claim.{Claim as ClaimData}
use Rattle.kube_objects.specs.declared.objects.Volume.{Volume as VolumeData}
use Rattle.kube_objects.specs.declared.objects.Object.{Object}
use Rattle.kube_objects.specs.declared.objects.Object.TheVariants.{Class, Node, Volume, Claim, Pod}
use Rattle.kube_objects.specs.Bindings.{is_completed, is_deleting, is_empty, is_lost, is_protected_claim, uses}
use Rattle.kube_objects.specs.Keys.{row_at}
use Rattle.binder_model.specs.BinderDue.{claim_due, completed_due, has_other_uid, lost_due, named_due}
use Rattle.binder_model.specs.Due.{claim_guard_due, guard_due, or_due}
use Rattle.binder_model.specs.Matching.{has_match}
use Rattle.binder_model.specs.ObjectKeys.{volume_key}
use Rattle.volume_index.specs.VolumeIndex.{as_volume}
use Rattle.case_table.specs.declared.rows.CaseRow.{CaseRow}
use Rattle.case_table.specs.Cases.{action_of}
use Rattle.claim_sync.specs.declared.action.ClaimStep.{ClaimStep}
use Rattle.claim_sync.specs.declared.action.ClaimStep.TheVariants as steps
use Rattle.claim_sync.specs.ClaimDecision.{has_write, is_blocked, is_open_to, may_assign, named_volume, unless_lost}
use Rattle.claim_sync.specs.ClaimLaw.{due_of}
use Rattle.claim_sync.specs.Conditions.{conditions_on, has_best, on_volume}
use Rattle.claim_sync.proofs.Agrees.{lost_agrees, lost_or_bound, named_agrees}
use Rattle.claim_sync.proofs.Rows.{chosen}
use Rattle.settle_check.specs.ClaimDues.{claim_due_rows}
use Rattle.settle_check.specs.DueTables.{due_number, due_numbered}
use Rattle.settle_check.specs.Steps.OnStore.{claim_conditions}
use Rattle.settle_check.proofs.ClaimRows.{rows_say}
use Rattle.settle_check.proofs.Numbered.{numbered_back}

-- what the binder chooses where the store itself is seen, with the texts of the claim laid open
abbrev chosen_on : ClaimData → Bool → Bool → Bool → Bool → Bool → Option VolumeData → ClaimStep
chosen_on c done deleting empty matched assignable v =
    chosen done deleting (not empty) matched assignable (is_lost c.phase) (is_some v) true (on_volume is_blocked v)
    (on_volume (λ u. is_open_to u c) v) (on_volume (λ u. has_other_uid u c) v) (on_volume (λ u. true && has_write u c) v)

-- what the binder has to do, with the texts of the claim laid open
abbrev due_on : ClaimData → Bool → Bool → Bool → Bool → Bool → Option Object → Option Due
due_on c done deleting empty matched assignable row =
    if done then (if empty then lost_due c else completed_due c row)
    else if deleting then None
    else if empty then (if matched then Some dues.Bind else if assignable then Some dues.AssignClass else None)
    else named_due c row

completed_agrees : (c : ClaimData) (deleting matched assignable : Bool) (row : Option Object) → due_of (chosen_on c true deleting false matched assignable (as_volume row)) ≡ completed_due c row
unfolding completed_due
completed_agrees c deleting matched assignable None = lost_agrees c
completed_agrees c deleting matched assignable (Some (Volume v)) = lost_or_bound (has_other_uid v c) (has_write v c) (unless_lost c steps.Lost) (lost_due c) (λ other. lost_agrees c)
completed_agrees c deleting matched assignable (Some (Class x)) = lost_agrees c
completed_agrees c deleting matched assignable (Some (Node x)) = lost_agrees c
completed_agrees c deleting matched assignable (Some (Claim x)) = lost_agrees c
completed_agrees c deleting matched assignable (Some (Pod x)) = lost_agrees c

open_agrees : (c : ClaimData) (matched assignable : Bool) (row : Option Object) → due_of (chosen_on c false false false matched assignable (as_volume row)) ≡ named_due c row
open_agrees c matched assignable None = named_agrees c None
open_agrees c matched assignable (Some (Volume v)) = named_agrees c (Some (Volume v))
open_agrees c matched assignable (Some (Class x)) = named_agrees c (Some (Class x))
open_agrees c matched assignable (Some (Node x)) = named_agrees c (Some (Node x))
open_agrees c matched assignable (Some (Claim x)) = named_agrees c (Some (Claim x))
open_agrees c matched assignable (Some (Pod x)) = named_agrees c (Some (Pod x))

binder_agrees : (c : ClaimData) (done deleting empty matched assignable : Bool) (row : Option Object)
    → due_of (chosen_on c done deleting empty (empty && matched) assignable (as_volume row)) ≡ due_on c done deleting empty matched assignable row
binder_agrees c true deleting true matched assignable row = lost_agrees c
binder_agrees c true deleting false matched assignable row = completed_agrees c deleting false assignable row
binder_agrees c false true empty matched assignable row = refl
binder_agrees c false false true true assignable row = refl
binder_agrees c false false true false true row = refl
binder_agrees c false false true false false row = refl
binder_agrees c false false false matched assignable row = open_agrees c false assignable row

-- protection comes first
guard_agrees : (deleting guarded needed : Bool) (next : Option Due)
    → (if is_none (guard_due deleting guarded needed) then next else if deleting then Some dues.Unguard else Some dues.Guard) ≡ or_due (guard_due deleting guarded needed) next
unfolding or_due
guard_agrees true true true next = refl
guard_agrees true true false next = refl
guard_agrees true false needed next = refl
guard_agrees false true needed next = refl
guard_agrees false false needed next = refl

says : (rows : List Object) (c : ClaimData) → action_of claim_due_rows (claim_conditions rows c) ≡ due_number (or_due (claim_guard_due rows c) (claim_due rows c))
unfolding conditions_on claim_due
says rows c =
    let v = named_volume rows c in
    rows_say (is_none (claim_guard_due rows c)) (is_completed c) (is_deleting c.meta) (not (is_empty c.volume_name)) (has_best rows c)
    (may_assign rows c) (is_lost c.phase) (is_some v) (on_volume is_blocked v) (on_volume (λ u. is_open_to u c) v) (on_volume (λ u. has_other_uid u c) v) (on_volume (λ u. true && has_write u c) v)
    ∙ ap due_number
    (guard_agrees (is_deleting c.meta) (is_protected_claim c) (list_any (uses c) rows) _
    ∙ ap (or_due (claim_guard_due rows c)) (binder_agrees c (is_completed c) (is_deleting c.meta) (is_empty c.volume_name) (has_match rows c)
    (may_assign rows c) (row_at (volume_key c.volume_name) rows)))

-- what the code reads off the table is what is due
pub read_off : (rows : List Object) (c : ClaimData) (table : List (CaseRow 12)) (conditions : List Bool) (number : ℕ) (answer : Option Due)
    → table ≡ claim_due_rows → conditions ≡ claim_conditions rows c → number ≡ action_of table conditions → answer ≡ due_numbered number → answer ≡ or_due (claim_guard_due rows c) (claim_due rows c)
read_off rows c table conditions number answer rows_are conditions_are picked numbered =
    numbered
    ∙ (ap due_numbered picked
    ∙ (ap (λ (t : List (CaseRow 12)). due_numbered (action_of t conditions)) rows_are
    ∙ (ap (λ (cs : List Bool). due_numbered (action_of claim_due_rows cs)) conditions_are
    ∙ (ap due_numbered (says rows c)
    ∙ numbered_back (or_due (claim_guard_due rows c) (claim_due rows c))))))

-- provisioning comes last
provision_last : (guard binder next : Option Due) → or_due (or_due guard binder) next ≡ or_due guard (or_due binder next)
unfolding or_due
provision_last (Some action) binder next = refl
provision_last None binder next = refl

pub found_first : (guard binder next found : Option Due) (action : Due) → found ≡ or_due guard binder → found ≡ Some action → Some action ≡ or_due guard (or_due binder next)
unfolding or_due
found_first guard binder next found action is some = ap (λ (x : Option Due). or_due x next) (sym some ∙ is) ∙ provision_last guard binder next

pub found_last : (guard binder next found : Option Due) → found ≡ or_due guard binder → found ≡ None → next ≡ or_due guard (or_due binder next)
unfolding or_due
found_last guard binder next found is none = ap (λ (x : Option Due). or_due x next) (sym none ∙ is) ∙ provision_last guard binder next
