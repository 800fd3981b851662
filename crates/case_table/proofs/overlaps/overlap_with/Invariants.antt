use Rattle.std.proofs.Common.{ℕ, ◌<◌}
use Rattle.case_table.specs.Cases.{Overlaps}
use Rattle.case_table.proofs.overlaps.overlap_with.Given as goal

-- no row so far overlaps
abbrev pub invariant-loop-second : goal.invariant-loop-second
invariant-loop-second g l = (j : ℕ) → j < l.second → l.first < j → Overlaps l.rows l.first j → ⊥
