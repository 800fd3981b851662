-- Places as a mark for each place. A choice of this project.
use Rattle.std.specs.Prelude.{ℕ, ◌+◌, Bool, List, [], ◌∷◌, if◌then◌else◌}

-- the places that have a mark, where the first mark is for this place
abbrev pub marked : ℕ → List Bool → List ℕ
marked place [] = []
marked place (mark ∷ marks) = if mark then place ∷ marked (place + 1) marks else marked (place + 1) marks
