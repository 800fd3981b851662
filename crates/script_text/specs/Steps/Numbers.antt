-- Numbers by the names of actors, and what stands beside what was said, so that it is found at once.
use Rattle.std.specs.Prelude.{ℕ, List, [], ◌∷◌, ◌++◌, Option, Some, None}
use Rattle.plain_data.specs.Pairs.{text_cmp}
use Rattle.plain_data.specs.Rows.{IsRising, IsAt, IsGap, put, find}
use Rattle.script_text.specs.declared.numbers.NumberRow.{NumberRow}

-- the name by which a row is found
abbrev pub row_name : NumberRow → List ℕ
row_name row = row.name

-- the rows stand in the order of their names, each name once
abbrev pub AreNumbers : List NumberRow → Type 0
AreNumbers rows = IsRising text_cmp row_name rows

-- the row of this name stands at this place
abbrev pub IsNumbersAt : List NumberRow → List ℕ → ℕ → Type 0
IsNumbersAt rows name i = IsAt text_cmp row_name name rows i

-- no row has this name, and one would stand at this place
abbrev pub IsNumbersGap : List NumberRow → List ℕ → ℕ → Type 0
IsNumbersGap rows name i = IsGap text_cmp row_name name rows i

-- the numbers of a row that may be absent
abbrev pub numbers_in : Option NumberRow → List ℕ
numbers_in None = []
numbers_in (Some row) = row.numbers

-- the numbers of a name, none where it has no row
abbrev pub numbers_at : List ℕ → List NumberRow → List ℕ
numbers_at name rows = numbers_in (find text_cmp row_name name rows)

-- with one number more
abbrev pub and_number : List ℕ → ℕ → List NumberRow → List NumberRow
and_number name n rows = put text_cmp row_name (record { name = name; numbers = numbers_at name rows ++ n ∷ [] }) rows

-- the numbers that a look-up found; none where it found nothing
abbrev pub numbers_shown : Option (List ℕ) → List ℕ
numbers_shown None = []
numbers_shown (Some ns) = ns
