use Rattle.std.proofs.Common.{◌≤◌, length}
use Rattle.evidence_agent.proofs.agent.told_ending.Given as goal

abbrev pub invariant-loop-left : goal.invariant-loop-left
invariant-loop-left l = l.left ≤ length l.tellings

abbrev pub decreases-loop-left : goal.decreases-loop-left
decreases-loop-left l = l.left
