-- A value that may be absent, as a list. A choice of this project.
use Rattle.std.specs.Prelude.{List, [], ◌∷◌, Option, Some, None}

-- a list of the value, if there is one
abbrev pub listed : {X : Type 0} → Option X → List X
listed None = []
listed (Some x) = x ∷ []
