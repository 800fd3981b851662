use Rattle.std.proofs.Common.{◌-◌, ◌≤◌, length, take}
use Rattle.fault_io.specs.Writing.{Appends}
use Rattle.fault_io.proofs.ends.write_all.Given as goal

-- what stands before the place is written, and the count has not fallen
abbrev pub invariant-loop-at : goal.invariant-loop-at
invariant-loop-at g l = record {
  within : l.at ≤ length l.bytes;
  written : Appends (g.K.Sink.written l.initial.sink) (g.K.Sink.written l.sink) (take l.at l.bytes);
  later : g.K.Sink.faults l.initial.sink ≤ g.K.Sink.faults l.sink;
}

abbrev pub decreases-loop-at : goal.decreases-loop-at
decreases-loop-at g l = length l.bytes - l.at
