use Rattle.std.proofs.Common.{◌≡◌, drop}
use Rattle.history_text.specs.Output.{with_lines}
use Rattle.store_judge.specs.Shown.{fault_lines}
use Rattle.store_judge.proofs.printing.push_faults.Given as goal

-- what is left goes on behind what was put
abbrev pub invariant-loop-fault : goal.invariant-loop-fault
invariant-loop-fault l = with_lines l.lines (fault_lines l.options (drop l.fault-index l.faults)) ≡ with_lines l.initial.lines (fault_lines l.options l.faults)
