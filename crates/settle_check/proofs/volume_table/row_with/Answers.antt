use Rattle.std.proofs.Common.{ℕ, List, ap₂, rules}
use Rattle.case_table.specs.declared.rows.Need.{Need}
use Rattle.case_table.specs.declared.rows.Need.TheVariants.{Yes}
use Rattle.case_table.specs.declared.rows.CaseRow.{CaseRow}
use Rattle.settle_check.proofs.Listed.{nine_without_fifth}
use Rattle.settle_check.proofs.volume_table.row_with.Goals as goal

abbrev row_of : List Need → ℕ → CaseRow 11
row_of needs action = record { needs = needs; action = action }

pub returns : goal.returns
returns c = ap₂ row_of (nine_without_fifth Yes c.args.row.needs c.args.more (search rules) (search rules)) c.due_number.ensures
