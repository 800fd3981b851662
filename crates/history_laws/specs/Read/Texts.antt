-- The texts of a history: what stands behind the line `end` is no part of it.
-- A choice of this project: the history format.
use Rattle.std.specs.Prelude.{◌≡◌, ℕ, ◌≤◌, List, [], ◌∷◌, ◌++◌, length, true, codes, map, ⊤}
use Rattle.std.specs.Str.{is_utf8}
use Rattle.call_types.specs.declared.entry.Entry.{Entry}
use Rattle.call_types.specs.declared.setup.Setup.{Setup}
use Rattle.history_text.specs.Entries.{entry_line, setup_line}
use Rattle.history_text.specs.Output.{with_lines}
use Rattle.history_read.specs.Grammar.{most_line_bytes}

-- the setup, and the entries with the oldest first
abbrev pub lines_before_end : Setup → List Entry → List (List ℕ)
lines_before_end s es = setup_line s ∷ map entry_line es

-- nothing, or a line feed and anything
abbrev pub IsRest : List ℕ → Type 0
IsRest [] = ⊤
IsRest (b ∷ bs) = b ≡ 10

-- the text has this setup and these entries: it is their printed lines, each with its line feed, and the line `end`
abbrev pub IsTextOf : List ℕ → Setup → List Entry → Type 0
IsTextOf text s es = (rest : List ℕ) × IsRest rest × (text ≡ with_lines [] (lines_before_end s es) ++ (codes "end" ++ rest))

-- a line in UTF-8, no longer than a line may be
pub record IsLineToRead (line : List ℕ) : Type 0 where
  pub utf8 : is_utf8 line ≡ true
  pub short : length line ≤ most_line_bytes
