-- The entries of the side, each with the number of the world's entries before it. A choice of this project.
use Rattle.std.specs.Prelude.{List, [], ◌∷◌, length}
use Rattle.side_model.specs.Merged.{OfSide, OfWorld, Step, entries}
use Rattle.side_text.specs.declared.entries.PlacedEntry.{PlacedEntry}

-- the side's entries among these steps, the newest first
abbrev pub placed : List Step → List PlacedEntry
placed [] = []
placed (OfWorld e ∷ m) = placed m
placed (OfSide s ∷ m) = record { after = length (entries m); entry = s } ∷ placed m
