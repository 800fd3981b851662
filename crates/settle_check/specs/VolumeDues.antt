-- The table of what is due for a volume: the binder's table, with reclaiming and protection where the binder has nothing to do.
-- A choice of this project.
use Rattle.std.specs.Prelude.{ℕ, List, [], ◌∷◌, ◌++◌, Option, Some, None, slice_index_or, slice_set}
use Rattle.kube_parts.specs.declared.names.Due.{Due}
use Rattle.kube_parts.specs.declared.names.Due.TheVariants as dues
use Rattle.case_table.specs.declared.rows.Need.{Need}
use Rattle.case_table.specs.declared.rows.Need.TheVariants.{Yes, No, Any}
use Rattle.case_table.specs.declared.rows.CaseRow.{CaseRow}
use Rattle.volume_sync.specs.VolumeLaw.{due_of_action}
use Rattle.volume_sync.specs.VolumeTable.{action_numbered, volume_rows}
use Rattle.settle_check.specs.DueTables.{due_number, without}

-- the conditions, in order: those of the binder's table, but for the one that the claim was asked for by itself, since
-- nothing is asked for where the store itself is seen; the policy is Delete; the volume is deleting; it has its protection finalizer

-- the row, with what it needs of the policy, of deletion and of the finalizer
abbrev pub row_with : CaseRow 9 → List Need → Option Due → CaseRow 11
row_with row more action = record { needs = without 4 row.needs ++ more; action = due_number action }

-- a row in which the binder has something to do
abbrev pub volume_binder_row : CaseRow 9 → CaseRow 11
volume_binder_row row = row_with row (Any ∷ Any ∷ Any ∷ []) (due_of_action (action_numbered row.action))

-- of the row's volumes those that are Bound or lack their finalizer, or the others
abbrev pub with_settled : CaseRow 9 → Need → CaseRow 9
with_settled row settled = record { needs = slice_set row.needs 7 settled; action = row.action }

-- a row in which the binder has nothing to do, and that is reclaimed in no case
unfoldable pub idle_rows : CaseRow 9 → List (CaseRow 11)
idle_rows row =
    row_with row (Any ∷ No ∷ No ∷ []) (Some dues.Guard)
    ∷ row_with row (Any ∷ No ∷ Yes ∷ []) None
    ∷ row_with (with_settled row No) (Any ∷ Yes ∷ Any ∷ []) (Some dues.Unguard)
    ∷ row_with (with_settled row Yes) (Any ∷ Yes ∷ Any ∷ []) None
    ∷ []

-- the row of volumes that are Released or Failed, with the UID of a claim
unfoldable pub ended_rows : CaseRow 9 → List (CaseRow 11)
ended_rows row =
    row_with row (Yes ∷ No ∷ Any ∷ []) (Some dues.Reclaim)
    ∷ row_with row (No ∷ No ∷ No ∷ []) (Some dues.Guard)
    ∷ row_with row (No ∷ No ∷ Yes ∷ []) None
    ∷ row_with (with_settled row No) (Any ∷ Yes ∷ Any ∷ []) (Some dues.Unguard)
    ∷ row_with (with_settled row Yes) (Any ∷ Yes ∷ Any ∷ []) None
    ∷ []

-- the row of volumes that are Bound or lack their finalizer
unfoldable pub settled_rows : CaseRow 9 → List (CaseRow 11)
settled_rows row =
    row_with row (Any ∷ No ∷ No ∷ []) (Some dues.Guard)
    ∷ row_with row (Any ∷ No ∷ Yes ∷ []) None
    ∷ row_with row (Any ∷ Yes ∷ Any ∷ []) None
    ∷ []

-- the binder's row at the place
abbrev pub row_at_place : ℕ → CaseRow 9
row_at_place place = slice_index_or volume_rows place (record { needs = []; action = 0 })

-- the table of what is due for volumes
unfoldable pub volume_due_rows : List (CaseRow 11)
volume_due_rows =
    volume_binder_row (row_at_place 1) ∷ volume_binder_row (row_at_place 3) ∷ volume_binder_row (row_at_place 7) ∷ volume_binder_row (row_at_place 8) ∷ volume_binder_row (row_at_place 9)
    ∷ (idle_rows (row_at_place 0) ++ (ended_rows (row_at_place 4) ++ (idle_rows (row_at_place 5) ++ settled_rows (row_at_place 6))))
