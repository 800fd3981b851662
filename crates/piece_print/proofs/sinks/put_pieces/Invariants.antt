use Rattle.std.proofs.Common.{◌≡◌, ◌≤◌, ◌+◌, ◌++◌, [], drop, take, length}
use Rattle.piece_print.specs.Pieces.{joined, owned}
use Rattle.piece_print.proofs.Passing.{PassesFront}
use Rattle.piece_print.proofs.sinks.put_pieces.Given as goal

-- a front of the text was put, and the rest is left
abbrev pub invariant-loop-piece : goal.invariant-loop-piece
invariant-loop-piece g l = record {
  within : l.at + owned (drop l.piece-index l.pieces) ≤ length l.own;
  held : l.held ≤ length l.buffer;
  size : length l.buffer ≡ length l.initial.buffer;
  later : g.K.Sink.faults l.initial.sink ≤ g.K.Sink.faults l.sink;
  put : PassesFront (g.K.Sink.written l.initial.sink) (g.K.Sink.written l.sink) (take l.held l.buffer) (joined (drop l.piece-index l.pieces) (drop l.at l.own)) (joined l.pieces l.own);
}
