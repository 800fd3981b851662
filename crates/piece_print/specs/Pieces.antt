-- Text in pieces.
-- A choice of this project.
use Rattle.std.specs.Prelude.{ℕ, ◌+◌, List, [], ◌∷◌, ◌++◌, take, drop}
use Rattle.piece_print.specs.declared.pieces.Piece.{Piece}

-- how many of the own bytes the pieces have
abbrev pub owned : List Piece → ℕ
owned [] = 0
owned (p ∷ ps) = p.own + owned ps

-- the own bytes, with each shared text behind those of its piece
abbrev pub joined : List Piece → List ℕ → List ℕ
joined [] own = own
joined (p ∷ ps) own = take p.own own ++ (p.shared ++ joined ps (drop p.own own))
