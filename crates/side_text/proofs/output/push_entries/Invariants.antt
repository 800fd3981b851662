use Rattle.std.proofs.Common.{◌≡◌, drop, map}
use Rattle.history_text.specs.Output.{with_lines}
use Rattle.side_text.specs.Entries.{side_line}
use Rattle.side_text.proofs.output.push_entries.Given as goal

-- with the lines of what is left they are the lines of all
abbrev pub invariant-loop-entry : goal.invariant-loop-entry
invariant-loop-entry l = with_lines l.lines (map side_line (drop l.entry-index l.entries)) ≡ with_lines l.initial.lines (map side_line l.entries)
