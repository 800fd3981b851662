-- proofs/rows/place_of/Invariants.antt
use Rattle.std.proofs.Common.{◌-◌}
use Rattle.plain_data.proofs.RowFacts.{Parted}
use Rattle.plain_data.proofs.rows.place_of.Given as goal

-- what is below low is less, and what is from high on is greater
abbrev pub invariant-loop-low : goal.invariant-loop-low
invariant-loop-low g l = Parted (λ y. g.T.Ranked.rank y l.key) l.rows l.low l.high

abbrev pub decreases-loop-low : goal.decreases-loop-low
decreases-loop-low g l = l.high - l.low
