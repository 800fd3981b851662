use Rattle.std.proofs.Common.{◌≡◌, drop, map}
use Rattle.history_text.specs.Output.{with_lines}
use Rattle.side_text.specs.Output.{size_line}
use Rattle.side_text.proofs.output.push_sizes.Given as goal

-- with the lines of what is left they are the lines of all
abbrev pub invariant-loop-row : goal.invariant-loop-row
invariant-loop-row l = with_lines l.lines (map size_line (drop l.row-index l.sizes)) ≡ with_lines l.initial.lines (map size_line l.sizes)
