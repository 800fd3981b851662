-- The rows of the table on claims are exact, and say what is due by the conditions.
use Rattle.std.proofs.Common.{◌≡◌, Bool, true, false, [], ◌∷◌, Some, count_by, refl, if◌then◌else◌}
use Rattle.kube_parts.specs.declared.names.Due.TheVariants as dues
use Rattle.case_table.specs.Cases.{IsExact, action_of, row_fits}
use Rattle.case_table.proofs.Each.{each_list}
use Rattle.claim_sync.specs.ClaimLaw.{due_of}
use Rattle.claim_sync.specs.ClaimTable.{claim_rows, completed_rows, unbound_rows}
use Rattle.claim_sync.proofs.Rows.{chosen}
use Rattle.settle_check.specs.DueTables.{due_number}
use Rattle.settle_check.specs.ClaimDues.{claim_due_rows}

one_row : (guarded completed deleting named matched assignable lost seen blocked takable other writing : Bool)
    → count_by (row_fits (guarded ∷ completed ∷ deleting ∷ named ∷ matched ∷ assignable ∷ lost ∷ seen ∷ blocked ∷ takable ∷ other ∷ writing ∷ [])) claim_due_rows ≡ 1
unfolding claim_due_rows claim_rows unbound_rows completed_rows
one_row true true deleting true matched assignable true true blocked takable true writing = refl
one_row true true deleting true matched assignable true true blocked takable false true = refl
one_row true true deleting true matched assignable true true blocked takable false false = refl
one_row true true deleting true matched assignable true false blocked takable other writing = refl
one_row true true deleting true matched assignable false true blocked takable true writing = refl
one_row true true deleting true matched assignable false true blocked takable false true = refl
one_row true true deleting true matched assignable false true blocked takable false false = refl
one_row true true deleting true matched assignable false false blocked takable other writing = refl
one_row true true deleting false matched assignable true seen blocked takable other writing = refl
one_row true true deleting false matched assignable false seen blocked takable other writing = refl
one_row true false true named matched assignable lost seen blocked takable other writing = refl
one_row true false false true matched assignable lost true true takable other writing = refl
one_row true false false true matched assignable lost true false true other writing = refl
one_row true false false true matched assignable lost true false false other writing = refl
one_row true false false true matched assignable lost false blocked takable other writing = refl
one_row true false false false true assignable lost seen blocked takable other writing = refl
one_row true false false false false true lost seen blocked takable other writing = refl
one_row true false false false false false lost seen blocked takable other writing = refl
one_row false completed true named matched assignable lost seen blocked takable other writing = refl
one_row false completed false named matched assignable lost seen blocked takable other writing = refl

pub rows_exact : IsExact claim_due_rows
rows_exact cs whole = each_list 12 (λ ds. count_by (row_fits ds) claim_due_rows ≡ 1) one_row cs whole

pub rows_say : (guarded completed deleting named matched assignable lost seen blocked takable other writing : Bool)
    → action_of claim_due_rows (guarded ∷ completed ∷ deleting ∷ named ∷ matched ∷ assignable ∷ lost ∷ seen ∷ blocked ∷ takable ∷ other ∷ writing ∷ [])
    ≡ due_number (if guarded then due_of (chosen completed deleting named matched assignable lost seen true blocked takable other writing) else if deleting then Some dues.Unguard else Some dues.Guard)
unfolding claim_due_rows claim_rows unbound_rows completed_rows
rows_say true true deleting true matched assignable true true blocked takable true writing = refl
rows_say true true deleting true matched assignable true true blocked takable false true = refl
rows_say true true deleting true matched assignable true true blocked takable false false = refl
rows_say true true deleting true matched assignable true false blocked takable other writing = refl
rows_say true true deleting true matched assignable false true blocked takable true writing = refl
rows_say true true deleting true matched assignable false true blocked takable false true = refl
rows_say true true deleting true matched assignable false true blocked takable false false = refl
rows_say true true deleting true matched assignable false false blocked takable other writing = refl
rows_say true true deleting false matched assignable true seen blocked takable other writing = refl
rows_say true true deleting false matched assignable false seen blocked takable other writing = refl
rows_say true false true named matched assignable lost seen blocked takable other writing = refl
rows_say true false false true matched assignable lost true true takable other writing = refl
rows_say true false false true matched assignable lost true false true other writing = refl
rows_say true false false true matched assignable lost true false false other writing = refl
rows_say true false false true matched assignable lost false blocked takable other writing = refl
rows_say true false false false true assignable lost seen blocked takable other writing = refl
rows_say true false false false false true lost seen blocked takable other writing = refl
rows_say true false false false false false lost seen blocked takable other writing = refl
rows_say false completed true named matched assignable lost seen blocked takable other writing = refl
rows_say false completed false named matched assignable lost seen blocked takable other writing = refl
