use Rattle.std.proofs.Common.{◌≡◌, drop}
use Rattle.case_table.specs.Cases.{action_of}
use Rattle.case_table.proofs.table.CaseTable.pick.Given as goal

-- no row fitted so far
abbrev pub invariant-loop-i : goal.invariant-loop-i
invariant-loop-i g l = action_of (drop l.i l.self) l.conditions ≡ action_of l.self l.conditions
