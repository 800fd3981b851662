use Rattle.std.proofs.Common.{◌≡◌, ◌+◌, ◌≤◌, [], length}
use Rattle.history_read.specs.Grammar.{entries_from, lines_of}
use Rattle.history_read.proofs.reading.entries_of.Given as goal

-- what is left goes on behind what was found, and each line had a byte
abbrev pub invariant-loop-rest : goal.invariant-loop-rest
invariant-loop-rest l = record {
  left : entries_from l.line (lines_of l.rest) l.found ≡ entries_from 2 (lines_of l.text) [];
  bound : l.line + length l.rest ≤ length l.text + 2;
}

abbrev pub decreases-loop-rest : goal.decreases-loop-rest
decreases-loop-rest l = length l.rest
