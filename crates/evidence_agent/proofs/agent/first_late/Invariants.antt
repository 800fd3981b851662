use Rattle.std.proofs.Common.{◌-◌, ◌≤◌, length}
use Rattle.evidence_agent.proofs.agent.first_late.Given as goal

abbrev pub invariant-loop-low : goal.invariant-loop-low
invariant-loop-low l = (l.low ≤ l.high) × (l.high ≤ length l.tellings)

abbrev pub decreases-loop-low : goal.decreases-loop-low
decreases-loop-low l = l.high - l.low
