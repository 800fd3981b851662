-- Canonical texts of entries and setups are lines.
use Rattle.json_text.proofs.Lines.{text_line}
use Rattle.history_text.specs.Entries.{entry_data, entry_line, setup_data, setup_line}
use Rattle.history_text.specs.Laws.{EntriesAreLines, SetupsAreLines}

pub entries_are_lines : EntriesAreLines
unfolding entry_line
entries_are_lines e h = text_line (entry_data e) h

pub setups_are_lines : SetupsAreLines
unfolding setup_line
setups_are_lines s h = text_line (setup_data s) h
