use Rattle.std.proofs.Common.{◌≡◌, ◌≤◌, ◌+◌, ◌++◌, drop, length}
use Rattle.piece_print.specs.Pieces.{joined, owned}
use Rattle.piece_print.proofs.pieces.push_joined.Given as goal

-- what is put and what is left make the whole
abbrev pub invariant-loop-piece : goal.invariant-loop-piece
invariant-loop-piece l = record {
  within : l.at + owned (drop l.piece-index l.pieces) ≤ length l.own;
  left : l.out.items ++ joined (drop l.piece-index l.pieces) (drop l.at l.own) ≡ l.initial.out.items ++ joined l.pieces l.own;
}
