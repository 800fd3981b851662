use Rattle.case_table.proofs.Numbers.{Digits}
use Rattle.case_table.proofs.conditions.conditions_of.Given as goal

-- what is set so far and the rest are the number
abbrev pub invariant-loop-i : goal.invariant-loop-i
invariant-loop-i g l = Digits g.row.K l.i l.number l.conditions l.rest
