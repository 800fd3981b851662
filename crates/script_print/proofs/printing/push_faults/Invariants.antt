use Rattle.std.proofs.Common.{◌≡◌, drop, map}
use Rattle.history_text.specs.Output.{with_lines}
use Rattle.script_print.specs.Printing.{fault_text}
use Rattle.script_print.proofs.printing.push_faults.Given as goal

abbrev pub invariant-loop-call : goal.invariant-loop-call
invariant-loop-call l = with_lines l.lines (map fault_text (drop l.call-index l.faults)) ≡ with_lines l.initial.lines (map fault_text l.faults)
