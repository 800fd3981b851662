use Rattle.std.proofs.Common.{◌≤◌}
use Rattle.thread_cases.proofs.runs.has_counts.Given as goal

abbrev pub invariant-loop-count : goal.invariant-loop-count
invariant-loop-count l = l.seat ≤ l.count-index
