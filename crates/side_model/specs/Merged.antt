-- All that an extended run does, in one list: calls of the world and asks of its side, the newest first.
-- A choice of this project. The history of the world, and the entries of the side, are the two parts of this list.
use Rattle.std.specs.Prelude.{List, [], ◌∷◌}
use Rattle.call_types.specs.declared.entry.Entry.{Entry}
use Rattle.side_calls.specs.declared.asks.SideEntry.{SideEntry}

-- a call of the world, or an ask of the side
pub data Step : Type 0 where
  OfWorld : Entry → Step
  OfSide : SideEntry → Step

-- the history of the world
abbrev pub entries : List Step → List Entry
entries [] = []
entries (OfWorld e ∷ m) = e ∷ entries m
entries (OfSide s ∷ m) = entries m

-- the entries of the side
abbrev pub sides : List Step → List SideEntry
sides [] = []
sides (OfWorld e ∷ m) = sides m
sides (OfSide s ∷ m) = s ∷ sides m

-- P holds at each point: now, after each earlier step, and before the first
abbrev pub AtEach : (List Step → Type 0) → List Step → Type 0
AtEach P [] = P []
AtEach P (s ∷ m) = P (s ∷ m) × AtEach P m
