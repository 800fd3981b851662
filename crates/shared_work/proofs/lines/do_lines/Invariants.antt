use Rattle.std.proofs.Common.{◌≤◌, drop}
use Rattle.shared_world.specs.Passes.{IsOf}
use Rattle.shared_work.specs.Lines.{HasDone}
use Rattle.shared_work.specs.Seats.{IsKept, seat_of}
use Rattle.shared_work.proofs.lines.do_lines.Given as goal

abbrev pub invariant-loop-line : goal.invariant-loop-line
invariant-loop-line g l = record {
  of : IsOf l.shared l.pass;
  kept : IsKept l.initial.pass l.pass;
  few : l.made ≤ l.line-index;
  done : (end : _) → HasDone (drop l.line-index l.lines) (seat_of l.pass) end → HasDone l.lines (seat_of l.initial.pass) end;
}
