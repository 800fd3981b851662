-- What holds of the texts of entries and setups.
-- A choice of this project: the history format.
use Rattle.std.specs.Prelude.{◌≡◌, false}
use Rattle.serde_json.specs.Written.{has_float}
use Rattle.json_text.specs.Canonical.{IsCanonical, IsLine}
use Rattle.call_types.specs.declared.entry.Entry.{Entry}
use Rattle.call_types.specs.declared.setup.Setup.{Setup}
use Rattle.history_text.specs.Entries.{entry_data, entry_line, setup_data, setup_line}

-- each number in the line of an entry is whole
abbrev pub EntriesHoldNoFloat : Type 0
EntriesHoldNoFloat = (e : Entry) → has_float (entry_data e) ≡ false

-- each number in the first line is whole
abbrev pub SetupsHoldNoFloat : Type 0
SetupsHoldNoFloat = (s : Setup) → has_float (setup_data s) ≡ false

-- no byte 10 stands in the line
abbrev pub EntriesAreLines : Type 0
EntriesAreLines = (e : Entry) → IsCanonical (entry_data e) → IsLine (entry_line e)

-- the first line has no line feed, where its value is canonical
abbrev pub SetupsAreLines : Type 0
SetupsAreLines = (s : Setup) → IsCanonical (setup_data s) → IsLine (setup_line s)
