-- The rows are exact, and say what is chosen by the conditions.
use Rattle.std.proofs.Common.{◌≡◌, Bool, true, false, not, [], ◌∷◌, count_by, refl, if◌then◌else◌}
use Rattle.case_table.specs.Cases.{IsExact, action_of, row_fits}
use Rattle.case_table.proofs.Each.{each_list}
use Rattle.claim_sync.specs.declared.action.ClaimStep.{ClaimStep}
use Rattle.claim_sync.specs.declared.action.ClaimStep.TheVariants as steps
use Rattle.claim_sync.specs.ClaimTable.{claim_rows, completed_rows, step_number, unbound_rows}

one_row : (completed deleting named matched assignable lost seen asked blocked takable other writing : Bool)
    → count_by (row_fits (completed ∷ deleting ∷ named ∷ matched ∷ assignable ∷ lost ∷ seen ∷ asked ∷ blocked ∷ takable ∷ other ∷ writing ∷ [])) claim_rows ≡ 1
unfolding claim_rows unbound_rows completed_rows
one_row false true named matched assignable lost seen asked blocked takable other writing = refl
one_row false false false true assignable lost seen asked blocked takable other writing = refl
one_row false false false false true lost seen asked blocked takable other writing = refl
one_row false false false false false lost seen asked blocked takable other writing = refl
one_row false false true matched assignable lost false asked blocked takable other writing = refl
one_row false false true matched assignable lost true asked true takable other writing = refl
one_row false false true matched assignable lost true asked false true other writing = refl
one_row false false true matched assignable lost true asked false false other writing = refl
one_row true deleting false matched assignable false seen asked blocked takable other writing = refl
one_row true deleting false matched assignable true seen asked blocked takable other writing = refl
one_row true deleting true matched assignable false false false blocked takable other writing = refl
one_row true deleting true matched assignable false false true blocked takable other writing = refl
one_row true deleting true matched assignable true false asked blocked takable other writing = refl
one_row true deleting true matched assignable false true asked blocked takable true writing = refl
one_row true deleting true matched assignable true true asked blocked takable true writing = refl
one_row true deleting true matched assignable false true asked blocked takable false true = refl
one_row true deleting true matched assignable true true asked blocked takable false true = refl
one_row true deleting true matched assignable false true asked blocked takable false false = refl
one_row true deleting true matched assignable true true asked blocked takable false false = refl

pub rows_exact : IsExact claim_rows
rows_exact cs whole = each_list 12 (λ ds. count_by (row_fits ds) claim_rows ≡ 1) one_row cs whole

-- what the rows say, by the conditions alone
abbrev pub chosen : Bool → Bool → Bool → Bool → Bool → Bool → Bool → Bool → Bool → Bool → Bool → Bool → ClaimStep
chosen completed deleting named matched assignable lost seen asked blocked takable other writing =
    if completed then
    (if not named then (if lost then steps.Nothing else steps.Lost)
    else if not seen then (if lost then steps.Nothing else if asked then steps.Lost else steps.ReadVolume)
    else if other then (if lost then steps.Nothing else steps.Lost)
    else if writing then steps.Bind else steps.Nothing)
    else if deleting then steps.Nothing
    else if not named then (if matched then steps.Bind else if assignable then steps.AssignClass else steps.Nothing)
    else if not seen then steps.Nothing
    else if blocked then steps.Nothing
    else if takable then steps.Bind else steps.Nothing

pub rows_say : (completed deleting named matched assignable lost seen asked blocked takable other writing : Bool)
    → action_of claim_rows (completed ∷ deleting ∷ named ∷ matched ∷ assignable ∷ lost ∷ seen ∷ asked ∷ blocked ∷ takable ∷ other ∷ writing ∷ []) ≡
    step_number (chosen completed deleting named matched assignable lost seen asked blocked takable other writing)
unfolding claim_rows unbound_rows completed_rows
rows_say false true named matched assignable lost seen asked blocked takable other writing = refl
rows_say false false false true assignable lost seen asked blocked takable other writing = refl
rows_say false false false false true lost seen asked blocked takable other writing = refl
rows_say false false false false false lost seen asked blocked takable other writing = refl
rows_say false false true matched assignable lost false asked blocked takable other writing = refl
rows_say false false true matched assignable lost true asked true takable other writing = refl
rows_say false false true matched assignable lost true asked false true other writing = refl
rows_say false false true matched assignable lost true asked false false other writing = refl
rows_say true deleting false matched assignable false seen asked blocked takable other writing = refl
rows_say true deleting false matched assignable true seen asked blocked takable other writing = refl
rows_say true deleting true matched assignable false false false blocked takable other writing = refl
rows_say true deleting true matched assignable false false true blocked takable other writing = refl
rows_say true deleting true matched assignable true false asked blocked takable other writing = refl
rows_say true deleting true matched assignable false true asked blocked takable true writing = refl
rows_say true deleting true matched assignable true true asked blocked takable true writing = refl
rows_say true deleting true matched assignable false true asked blocked takable false true = refl
rows_say true deleting true matched assignable true true asked blocked takable false true = refl
rows_say true deleting true matched assignable false true asked blocked takable false false = refl
rows_say true deleting true matched assignable true true asked blocked takable false false = refl
