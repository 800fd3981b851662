use Rattle.std.proofs.Common.{arith}
use Rattle.case_table.proofs.Sharing.{first_within}
use Rattle.case_table.proofs.overlaps.least_overlap.Goals as goal

pub returns-clause-none : goal.returns-clause-none
returns-clause-none g c = λ i j below o. c.loop-first.invariant i (omega (arith, first_within c.args.rows.now i j o)) j below o
