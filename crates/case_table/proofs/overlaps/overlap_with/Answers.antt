use Rattle.std.proofs.Common.{arith}
use Rattle.case_table.proofs.Sharing.{second_within}
use Rattle.case_table.proofs.overlaps.overlap_with.Goals as goal

pub returns-clause-none : goal.returns-clause-none
returns-clause-none g c = λ j above o. c.loop-second.invariant j (omega (arith, second_within c.args.rows.now c.args.first j o)) above o
