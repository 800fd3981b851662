-- The history of a text: the setup's line, a line for each entry, and the line `end`; what follows is not looked at.
-- A choice of this project: the history format, and its limits.
use Rattle.std.specs.Prelude.{ℕ, ◌+◌, ◌==◌, nat_lt, List, [], ◌∷◌, ◌++◌, length, if◌then◌else◌, Ok, Err, Option, Some, None, codes, bytes_eq}
use Rattle.std.specs.List.{slice_split}
use Rattle.std.specs.declared.result.Result.{Result}
use Rattle.call_types.specs.declared.entry.Entry.{Entry}
use Rattle.call_types.specs.declared.setup.Setup.{Setup}
use Rattle.history_lines.specs.Entries.{entry_of, setup_of}
use Rattle.history_read.specs.declared.errors.HistoryReason.{HistoryReason}
use Rattle.history_read.specs.declared.errors.HistoryReason.TheVariants.{TooLong, NotCanonical, MissingEnd}
use Rattle.history_read.specs.declared.errors.BadHistoryLine.{BadHistoryLine}
use Rattle.call_types.specs.declared.histories.History.{History}

-- ---- lines: each ends in a line feed, which the last may lack

-- nothing stands behind the last line feed, or a line that lacks one
abbrev pub last_line : List ℕ → List (List ℕ)
last_line [] = []
last_line (b ∷ bs) = (b ∷ bs) ∷ []

-- the lines of the parts between line feeds
abbrev pub lines_in : List (List ℕ) → List (List ℕ)
lines_in [] = []
lines_in (part ∷ []) = last_line part
lines_in (part ∷ next ∷ parts) = part ∷ lines_in (next ∷ parts)

-- the lines of a text
unfoldable pub lines_of : List ℕ → List (List ℕ)
lines_of text = lines_in (slice_split (λ b. b == 10) text)

-- ---- one line

-- how many bytes a line may have: 4 MiB
abbrev pub most_line_bytes : ℕ
most_line_bytes = 4194304

-- what was read, or that the line is not the canonical text of anything
abbrev pub canonical : {X : Type 0} → Option X → Result X HistoryReason
canonical None = Err NotCanonical
canonical (Some x) = Ok x

-- what a line that is not too long is read as
abbrev pub in_line : {X : Type 0} → (List ℕ → Option X) → List ℕ → Result X HistoryReason
in_line of line = if nat_lt most_line_bytes (length line) then Err TooLong else canonical (of line)

-- the refusal of the line of this number
abbrev pub refused_line : {X : Type 0} → ℕ → HistoryReason → Result X BadHistoryLine
refused_line n reason = Err (record { line = n; reason = reason })

-- the first refusal with the number of its line, else what the next step makes of the value
abbrev pub at_line : {X Y : Type 0} → ℕ → Result X HistoryReason → (X → Result Y BadHistoryLine) → Result Y BadHistoryLine
at_line n (Ok x) next = next x
at_line n (Err reason) next = refused_line n reason

-- ---- the text

-- the entries of lines up to the line `end`, the first of which has this number, behind those that were found
abbrev pub entries_from : ℕ → List (List ℕ) → List Entry → Result (List Entry) BadHistoryLine
entries_from n [] found = refused_line n MissingEnd
entries_from n (line ∷ lines) found =
    if bytes_eq line (codes "end") then Ok found else at_line n (in_line entry_of line) (λ e. entries_from (n + 1) lines (found ++ e ∷ []))

-- the history of this setup and these entries, unless a line was refused
abbrev pub with_setup : Setup → Result (List Entry) BadHistoryLine → Result History BadHistoryLine
with_setup s (Ok es) = Ok (record { setup = s; entries = es })
with_setup s (Err b) = Err b

-- the history that these lines are: the setup, the entries and the end
abbrev pub history_in : List (List ℕ) → Result History BadHistoryLine
history_in [] = refused_line 1 MissingEnd
history_in (line ∷ lines) = at_line 1 (in_line setup_of line) (λ s. with_setup s (entries_from 2 lines []))

-- the setup and the entries of a text; or the first line at fault, and the first of its reasons
abbrev pub history_of : List ℕ → Result History BadHistoryLine
history_of text = history_in (lines_of text)
