use Rattle.std.proofs.Common.{◌≡◌, drop, map}
use Rattle.history_text.specs.Output.{with_lines}
use Rattle.script_print.specs.Printing.{line_text}
use Rattle.script_print.proofs.printing.push_lines.Given as goal

abbrev pub invariant-loop-line : goal.invariant-loop-line
invariant-loop-line l = with_lines l.lines (map line_text (drop l.line-index l.script)) ≡ with_lines l.initial.lines (map line_text l.script)
