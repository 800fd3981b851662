use Rattle.std.proofs.Common.{◌≡◌, drop}
use Rattle.case_table.specs.Cases.{some_row_fits}
use Rattle.case_table.proofs.conditions.some_row_fits.Given as goal

-- no row fitted so far
abbrev pub invariant-loop-row : goal.invariant-loop-row
invariant-loop-row g l = some_row_fits (drop l.row-index l.rows) l.conditions ≡ some_row_fits l.rows l.conditions
