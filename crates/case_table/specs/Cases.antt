-- Decision tables by cases. A choice of this project.
use Rattle.std.specs.Prelude.{ℕ, ◌≡◌, ◌+◌, ◌^◌, ◌<◌, Bool, true, false, not, ◌&&◌, List, [], ◌∷◌, length, count_by, slice_get, if◌then◌else◌}
use Rattle.std.specs.List.{list_any}
use Rattle.std.specs.Option.{option_map_or}
use Rattle.case_table.specs.declared.rows.Need.{Need}
use Rattle.case_table.specs.declared.rows.Need.TheVariants.{Yes, No, Any}
use Rattle.case_table.specs.declared.rows.CaseRow.{CaseRow}

-- the condition is as needed
abbrev pub fits_need : Need → Bool → Bool
fits_need Yes b = b
fits_need No b = not b
fits_need Any b = true

-- all conditions are as needed
abbrev pub fits : List Need → List Bool → Bool
fits [] cs = true
fits (n ∷ ns) [] = true
fits (n ∷ ns) (c ∷ cs) = fits_need n c && fits ns cs

-- the row fits the conditions
abbrev pub row_fits : {k : ℕ} → List Bool → CaseRow k → Bool
row_fits cs row = fits row.needs cs

-- each list of k conditions fits exactly one row
abbrev pub IsExact : {k : ℕ} → List (CaseRow k) → Type 0
IsExact {k} rows = (cs : List Bool) → length cs ≡ k → count_by (row_fits cs) rows ≡ 1

-- the action of the first row that the conditions fit
abbrev pub action_of : {k : ℕ} → List (CaseRow k) → List Bool → ℕ
action_of [] cs = 0
action_of (row ∷ rows) cs = if row_fits cs row then row.action else action_of rows cs

-- the conditions as a binary number, the first the most significant
abbrev pub binary : List Bool → ℕ
binary [] = 0
binary (c ∷ cs) = (if c then 2 ^ length cs else 0) + binary cs

-- some row fits the conditions
abbrev pub some_row_fits : {k : ℕ} → List (CaseRow k) → List Bool → Bool
some_row_fits rows cs = list_any (row_fits cs) rows

-- no list of conditions is without a row
abbrev pub EachFits : {k : ℕ} → List (CaseRow k) → Type 0
EachFits {k} rows = (cs : List Bool) → length cs ≡ k → some_row_fits rows cs ≡ true

-- the least list of conditions that no row fits
pub record IsLeastGap {k : ℕ} (rows : List (CaseRow k)) (conditions : List Bool) : Type 0 where
  pub whole : length conditions ≡ k
  pub gap : some_row_fits rows conditions ≡ false
  pub least : (cs : List Bool) → length cs ≡ k → binary cs < binary conditions → some_row_fits rows cs ≡ true

-- the row at this place fits the conditions
abbrev pub fits_at : {k : ℕ} → List (CaseRow k) → List Bool → ℕ → Bool
fits_at rows cs i = option_map_or (row_fits cs) (slice_get rows i) false

-- the rows at two places fit one list of conditions
pub record Overlaps {k : ℕ} (rows : List (CaseRow k)) (first second : ℕ) : Type 0 where
  pub conditions : List Bool
  pub whole : length conditions ≡ k
  pub fits_first : fits_at rows conditions first ≡ true
  pub fits_second : fits_at rows conditions second ≡ true

-- the least pair of rows that fit one list of conditions
pub record IsLeastOverlap {k : ℕ} (rows : List (CaseRow k)) (first second : ℕ) : Type 0 where
  pub rising : first < second
  pub overlap : Overlaps rows first second
  pub no_earlier_first : (i j : ℕ) → i < first → i < j → Overlaps rows i j → ⊥
  pub no_earlier_second : (j : ℕ) → first < j → j < second → Overlaps rows first j → ⊥
