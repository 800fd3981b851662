-- What one line takes of an input, where the source tells what is left of it.
-- A choice of this project: the lines are those of the history format, each up to its line feed, which the last may lack.
use Rattle.std.specs.Prelude.{ℕ, ◌≡◌, ◌+◌, ◌<◌, List, [], ◌∷◌, ◌++◌, length, take, drop, Option, Some, None, option_map, ⊤}
use Rattle.json_text.specs.Canonical.{IsLine}
use Rattle.history_read.specs.Grammar.{lines_of}

-- what is left of an input: the bytes that are held, and what the source has left
abbrev pub pending : List ℕ → Option (List ℕ) → Option (List ℕ)
pending held left = option_map (λ bytes. held ++ bytes) left

-- a whole line is held: a line feed is among the bytes
abbrev pub HoldsLine : List ℕ → Type 0
HoldsLine held = IsLine held → ⊥

-- the first line feed stands at this place
pub record IsFeedAt (bytes : List ℕ) (place : ℕ) : Type 0 where
  pub within : place < length bytes
  pub line : IsLine (take place bytes)
  pub feed : bytes ≡ take place bytes ++ 10 ∷ drop (place + 1) bytes

-- the first line of the input was read, or there was none; who tells what is left goes on telling it
abbrev pub ReadsLine : Option (List ℕ) → Option (List ℕ) → Option (List ℕ) → Type 0
ReadsLine None None line = ⊤
ReadsLine None (Some left) line = ⊥
ReadsLine (Some input) None line = ⊥
ReadsLine (Some input) (Some left) None = lines_of input ≡ []
ReadsLine (Some input) (Some left) (Some line) = lines_of input ≡ line ∷ lines_of left
