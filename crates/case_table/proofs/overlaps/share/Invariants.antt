use Rattle.std.proofs.Common.{◌≡◌, drop}
use Rattle.case_table.specs.Steps.Sharing.{shared}
use Rattle.case_table.proofs.overlaps.share.Given as goal

-- the needs so far can all be met
abbrev pub invariant-loop-i : goal.invariant-loop-i
invariant-loop-i g l = shared (drop l.i l.first) (drop l.i l.second) ≡ shared l.first l.second
