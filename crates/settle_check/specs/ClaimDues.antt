-- The table of what is due for a claim, but for provisioning: the binder's table, behind what protection has to do.
-- A choice of this project.
use Rattle.std.specs.Prelude.{ℕ, List, [], ◌∷◌, Some, slice_index_or}
use Rattle.kube_parts.specs.declared.names.Due.{Due}
use Rattle.kube_parts.specs.declared.names.Due.TheVariants as dues
use Rattle.case_table.specs.declared.rows.Need.{Need}
use Rattle.case_table.specs.declared.rows.Need.TheVariants.{Yes, No, Any}
use Rattle.case_table.specs.declared.rows.CaseRow.{CaseRow}
use Rattle.claim_sync.specs.ClaimLaw.{due_of}
use Rattle.claim_sync.specs.ClaimTable.{claim_rows, step_numbered}
use Rattle.settle_check.specs.DueTables.{due_number, without}

-- the conditions, in order: the claim's protection finalizer is as it is to be; those of the binder's table, but for the one
-- that the volume was asked for by itself, since nothing is asked for where the store itself is seen

-- what is due where protection has something to do: it depends on deletion alone
abbrev pub guard_row : Need → Due → CaseRow 12
guard_row deleting action =
    record { needs = No ∷ Any ∷ deleting ∷ Any ∷ Any ∷ Any ∷ Any ∷ Any ∷ Any ∷ Any ∷ Any ∷ Any ∷ []; action = due_number (Some action) }

-- a row of the binder's table
abbrev pub claim_binder_row : CaseRow 12 → CaseRow 12
claim_binder_row row = record { needs = Yes ∷ without 7 row.needs; action = due_number (due_of (step_numbered row.action)) }

-- the binder's row at the place
abbrev pub row_at_place : ℕ → CaseRow 12
row_at_place place = slice_index_or claim_rows place (record { needs = []; action = 0 })

-- the binder's rows but for the eleventh, in which the volume is still to be asked for
unfoldable pub claim_due_rows : List (CaseRow 12)
claim_due_rows =
    guard_row No dues.Guard ∷ guard_row Yes dues.Unguard
    ∷ claim_binder_row (row_at_place 0) ∷ claim_binder_row (row_at_place 1) ∷ claim_binder_row (row_at_place 2) ∷ claim_binder_row (row_at_place 3)
    ∷ claim_binder_row (row_at_place 4) ∷ claim_binder_row (row_at_place 5) ∷ claim_binder_row (row_at_place 6) ∷ claim_binder_row (row_at_place 7)
    ∷ claim_binder_row (row_at_place 8) ∷ claim_binder_row (row_at_place 9) ∷ claim_binder_row (row_at_place 11) ∷ claim_binder_row (row_at_place 12)
    ∷ claim_binder_row (row_at_place 13) ∷ claim_binder_row (row_at_place 14) ∷ claim_binder_row (row_at_place 15) ∷ claim_binder_row (row_at_place 16) ∷ []
