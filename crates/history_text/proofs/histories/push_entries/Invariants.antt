use Rattle.std.proofs.Common.{◌≡◌, drop, map}
use Rattle.piece_print.specs.Writing.{text_in}
use Rattle.history_text.specs.Entries.{entry_line}
use Rattle.history_text.specs.Output.{with_lines}
use Rattle.history_text.proofs.histories.push_entries.Given as goal

abbrev pub invariant-loop-entry : goal.invariant-loop-entry
invariant-loop-entry l = with_lines (text_in l.out) (map entry_line (drop l.entry-index l.entries)) ≡ with_lines (text_in l.initial.out) (map entry_line l.entries)
