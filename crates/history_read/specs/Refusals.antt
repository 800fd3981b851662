-- What is printed for a line at fault. The words and the form of the line are a choice of this project.
use Rattle.std.specs.Prelude.{ℕ, List, ◌++◌, codes, decimal}
use Rattle.history_read.specs.declared.errors.HistoryReason.{HistoryReason}
use Rattle.history_read.specs.declared.errors.HistoryReason.TheVariants.{TooLong, NotCanonical, MissingEnd}
use Rattle.history_read.specs.declared.errors.BadHistoryLine.{BadHistoryLine}

-- what is printed for the refusal of a line
abbrev pub reason_word : HistoryReason → List ℕ
reason_word TooLong = codes "TooLong"
reason_word NotCanonical = codes "NotCanonical"
reason_word MissingEnd = codes "Missing end"

-- the number of the line in decimal digits, and the reason
unfoldable pub refusal_line : BadHistoryLine → List ℕ
refusal_line b = codes "line " ++ (decimal b.line ++ (codes ": " ++ reason_word b.reason))
