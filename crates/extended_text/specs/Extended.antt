-- The extended script that a text is, or its first line at fault and why.
-- A choice of this project: one grammar. The script is that of the same lines, with nothing in place of each line of the side; so a
-- line has the number that it has in the text, and what is no line of the side is read or refused as in any script.
use Rattle.std.specs.Prelude.{ℕ, ◌+◌, nat_lt, List, [], ◌∷◌, map, if◌then◌else◌, Ok, Err, Option, Some, None}
use Rattle.std.specs.List.{count_by}
use Rattle.std.specs.declared.result.Result.{Result}
use Rattle.serde_json.specs.Data.{Data}
use Rattle.script_lines.specs.declared.errors.Reason.{Reason}
use Rattle.script_lines.specs.declared.errors.BadLine.{BadLine}
use Rattle.script_text.specs.declared.script.Numbered.{Numbered}
use Rattle.script_text.specs.Grammar.{lines_of, read_lines_of}
use Rattle.extended_text.specs.declared.progress.SideSaid.{SideSaid}
use Rattle.extended_text.specs.declared.sides.Extended.{Extended}
use Rattle.extended_text.specs.declared.sides.NumberedSide.{NumberedSide}
use Rattle.extended_text.specs.declared.sides.PlacedSide.{PlacedSide}
use Rattle.extended_text.specs.declared.sides.SideWord.{SideWord}
use Rattle.extended_text.specs.Sides.{and_word, no_sides, side_in}

-- ---- the script's half

-- what the script has of a line: nothing of one that is the side's
abbrev pub left_of : Result (SideWord × Data) Reason → List ℕ → List ℕ
left_of (Ok side) line = []
left_of (Err reason) line = line

-- the line as the script's reader is given it
abbrev pub blanked : List ℕ → List ℕ
blanked line = left_of (side_in line) line

-- ---- the side's half

-- what was said with a line, or that the line of this number is refused
abbrev pub or_bad : ℕ → Result SideSaid Reason → Result SideSaid BadLine
or_bad n (Ok said) = Ok said
or_bad n (Err reason) = Err (record { line = n; reason = reason })

-- with the side's line of this number; after the first refusal nothing more is said
abbrev pub with_side : Result SideSaid BadLine → ℕ → SideWord × Data → Result SideSaid BadLine
with_side (Ok said) n side = or_bad n (and_word said n side.0 side.1)
with_side (Err bad) n side = Err bad

-- a line that is none of the side's says nothing to it
abbrev pub if_side : Result SideSaid BadLine → ℕ → Result (SideWord × Data) Reason → Result SideSaid BadLine
if_side before n (Ok side) = with_side before n side
if_side before n (Err reason) = before

-- what the side's lines among these say, the first of which has this number, after what was said before
abbrev pub sides_from : ℕ → List (List ℕ) → Result SideSaid BadLine → Result SideSaid BadLine
sides_from n [] before = before
sides_from n (line ∷ lines) before = sides_from (n + 1) lines (if_side before n (side_in line))

-- what the side's lines of a text say, or the first of them that is refused
abbrev pub sides_in : List (List ℕ) → Result SideSaid BadLine
sides_in lines = sides_from 1 lines (Ok no_sides)

-- ---- both

-- the place of a line of the side: how many lines of the script come before it
abbrev pub placed : List ℕ → NumberedSide → PlacedSide
placed numbers side = record { before = count_by (λ n. nat_lt n side.number) numbers; number = side.number; line = side.line }

-- no bytes, where no line gives bytes for growth
abbrev pub or_none : Option ℕ → ℕ
or_none None = 0
or_none (Some bytes) = bytes

-- the extended script of a script, whose lines have numbers, and of what the side's lines say
unfoldable pub extended_by : Numbered → SideSaid → Extended
extended_by numbered said = record {
  script = numbered.script;
  quotas = said.quotas;
  reserve = or_none said.reserve;
  sides = map (placed numbered.numbers) said.sides;
}

-- of two lines at fault the one with the smaller number
abbrev pub first_fault : BadLine → BadLine → BadLine
first_fault one other = if nat_lt other.line one.line then other else one

-- the fault of the script's half, or that of the side's where it comes first
abbrev pub earlier_of : BadLine → Result SideSaid BadLine → BadLine
earlier_of bad (Ok said) = bad
earlier_of bad (Err other) = first_fault bad other

-- with a script, what the side's half is
abbrev pub with_script : Numbered → Result SideSaid BadLine → Result Extended BadLine
with_script numbered (Ok said) = Ok (extended_by numbered said)
with_script numbered (Err bad) = Err bad

-- the two halves together
abbrev pub joined : Result Numbered BadLine → Result SideSaid BadLine → Result Extended BadLine
joined (Ok numbered) sides = with_script numbered sides
joined (Err bad) sides = Err (earlier_of bad sides)

-- the extended script of lines
abbrev pub extended_lines : List (List ℕ) → Result Extended BadLine
extended_lines lines = joined (read_lines_of (map blanked lines)) (sides_in lines)

-- the extended script of a text; or the first line at fault, of the script or of the side, and the first of its reasons
unfoldable pub extended_of : List ℕ → Result Extended BadLine
extended_of text = extended_lines (lines_of text)
