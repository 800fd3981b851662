use Rattle.std.proofs.Common.{◌≡◌, drop, map}
use Rattle.history_text.specs.Output.{with_lines}
use Rattle.script_print.specs.Printing.{import_text}
use Rattle.script_print.proofs.printing.push_imports.Given as goal

abbrev pub invariant-loop-object : goal.invariant-loop-object
invariant-loop-object l = with_lines l.lines (map import_text (drop l.object-index l.imports)) ≡ with_lines l.initial.lines (map import_text l.imports)
