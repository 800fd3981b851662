-- What an extended script does, in order: the lines of its script, and between them what users ask of the side.
-- A choice of this project.
use Rattle.std.specs.Prelude.{ℕ, ◌+◌, nat_le, List, [], ◌∷◌, if◌then◌else◌}
use Rattle.kube_objects.specs.declared.key.Key.{Key}
use Rattle.script_text.specs.declared.script.Line.{Line}
use Rattle.extended_text.specs.declared.sides.Extended.{Extended}
use Rattle.extended_text.specs.declared.sides.PlacedSide.{PlacedSide}
use Rattle.extended_text.specs.declared.sides.SideLine.{SideLine}
use Rattle.extended_text.specs.declared.sides.SideLine.TheVariants.{Grow, Quota, Reserve}
use Rattle.side_model.specs.Sides.{SideSetup}

-- a line of the script, or a user's wish that the claim of a key grow to so many bytes
pub data Work : Type 0 where
  OfScript : Line → Work
  OfGrowth : ℕ → Key → ℕ → Work

-- the lines of the script among them
abbrev pub lines_in : List Work → List Line
lines_in [] = []
lines_in (OfScript line ∷ works) = line ∷ lines_in works
lines_in (OfGrowth user key bytes ∷ works) = lines_in works

-- what a line of the side asks in its turn. Quotas and the reserve hold from the start, wherever their lines stand
abbrev pub with_side : SideLine → List Work → List Work
with_side (Grow user key bytes) works = OfGrowth user key bytes ∷ works
with_side (Quota quota) works = works
with_side (Reserve bytes) works = works

-- what these lines of the side ask, and then these works
abbrev pub with_sides : List PlacedSide → List Work → List Work
with_sides [] works = works
with_sides (s ∷ sides) works = with_side s.line (with_sides sides works)

-- of these lines of the side those that stand before the script's line of a place, and those behind it
abbrev pub sides_before : ℕ → List PlacedSide → List PlacedSide
sides_before place [] = []
sides_before place (s ∷ sides) = if nat_le s.before place then s ∷ sides_before place sides else []

-- and those behind it
abbrev pub sides_behind : ℕ → List PlacedSide → List PlacedSide
sides_behind place [] = []
sides_behind place (s ∷ sides) = if nat_le s.before place then sides_behind place sides else s ∷ sides

-- the script's lines from this place on, with these lines of the side between them
abbrev pub works_from : ℕ → List Line → List PlacedSide → List Work
works_from place [] sides = with_sides sides []
works_from place (line ∷ lines) sides = with_sides (sides_before place sides) (OfScript line ∷ works_from (place + 1) lines (sides_behind place sides))

-- all works of an extended script
abbrev pub works_of : Extended → List Work
works_of extended = works_from 0 extended.script.lines extended.sides

-- what its lines of the side set from the start
abbrev pub given_of : Extended → SideSetup
given_of extended = record { quotas = extended.quotas; reserve = extended.reserve }
