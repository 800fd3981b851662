use Rattle.std.proofs.Common.{◌≡◌, ◌<◌, List, length, Bool, true}
use Rattle.case_table.specs.Cases.{binary, some_row_fits}
use Rattle.case_table.proofs.conditions.least_gap.Given as goal

-- some row fits each list so far
abbrev pub invariant-loop-number : goal.invariant-loop-number
invariant-loop-number g l = (cs : List Bool) → length cs ≡ g.row.K → binary cs < l.number → some_row_fits l.rows cs ≡ true
