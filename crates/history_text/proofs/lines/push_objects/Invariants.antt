use Rattle.std.proofs.Common.{◌≡◌, drop, map}
use Rattle.object_print.specs.Objects.{object_line}
use Rattle.history_text.specs.Output.{with_lines}
use Rattle.history_text.proofs.lines.push_objects.Given as goal

abbrev pub invariant-loop-object : goal.invariant-loop-object
invariant-loop-object l = with_lines l.lines (map object_line (drop l.object-index l.objects)) ≡ with_lines l.initial.lines (map object_line l.objects)
