-- What two rows need at once, as the code finds it. A choice of this project.
use Rattle.std.specs.Prelude.{Bool, true, false, ◌&&◌, List, [], ◌∷◌}
use Rattle.case_table.specs.declared.rows.Need.{Need}
use Rattle.case_table.specs.declared.rows.Need.TheVariants.{Yes, No}

-- one condition can be as both need
abbrev pub meets : Need → Need → Bool
meets Yes No = false
meets No Yes = false
meets _ _ = true

-- one list of conditions can be as both need
abbrev pub shared : List Need → List Need → Bool
shared [] ms = true
shared (n ∷ ns) [] = true
shared (n ∷ ns) (m ∷ ms) = meets n m && shared ns ms
