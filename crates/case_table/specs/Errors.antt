-- What the errors of a table say. A choice of this project.
use Rattle.std.specs.Prelude.{ℕ, List}
use Rattle.case_table.specs.declared.rows.CaseRow.{CaseRow}
use Rattle.case_table.specs.declared.table.TableError.{TableError}
use Rattle.case_table.specs.declared.table.TableError.TheVariants.{Gap, Overlap}
use Rattle.case_table.specs.Cases.{EachFits, IsLeastGap, IsLeastOverlap}

-- a gap comes before each overlap
abbrev pub Tells : {k : ℕ} → List (CaseRow k) → TableError k → Type 0
Tells rows (Gap conditions) = IsLeastGap rows conditions
Tells rows (Overlap first second) = EachFits rows × IsLeastOverlap rows first second
