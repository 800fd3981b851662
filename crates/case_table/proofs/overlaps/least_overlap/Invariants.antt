use Rattle.std.proofs.Common.{ℕ, ◌<◌}
use Rattle.case_table.specs.Cases.{Overlaps}
use Rattle.case_table.proofs.overlaps.least_overlap.Given as goal

-- no row so far overlaps a later one
abbrev pub invariant-loop-first : goal.invariant-loop-first
invariant-loop-first g l = (i : ℕ) → i < l.first → (j : ℕ) → i < j → Overlaps l.rows i j → ⊥
