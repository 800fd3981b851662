use Rattle.std.proofs.Common.{ℕ, ◌∙◌, List, ◌∷◌, ap, ap₂, rules}
use Rattle.case_table.specs.declared.rows.Need.{Need}
use Rattle.case_table.specs.declared.rows.Need.TheVariants.{Yes}
use Rattle.case_table.specs.declared.rows.CaseRow.{CaseRow}
use Rattle.claim_sync.specs.ClaimLaw.{due_of}
use Rattle.settle_check.specs.DueTables.{due_number}
use Rattle.settle_check.proofs.Listed.{twelve_without_eighth}
use Rattle.settle_check.proofs.claim_table.binder_row.Goals as goal

abbrev row_of : List Need → ℕ → CaseRow 12
row_of needs action = record { needs = Yes ∷ needs; action = action }

pub returns : goal.returns
returns c =
    ap₂ row_of (twelve_without_eighth Yes c.args.row.needs (search rules)) (c.due_number.ensures ∙ ap due_number (c.claim_step_due.ensures ∙ ap due_of c.numbered.ensures))
