use Rattle.std.proofs.Common.{◌≤◌}
use Rattle.thread_cases.proofs.scripts.has_words.Given as goal

abbrev pub invariant-loop-of : goal.invariant-loop-of
invariant-loop-of l = l.place ≤ l.of-index
