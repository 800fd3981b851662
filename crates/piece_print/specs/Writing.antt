-- JSON text in pieces, and what is on its way to a sink.
-- A choice of this project.
use Rattle.std.specs.Prelude.{ℕ, ◌≡◌, List, ◌++◌, Option}
use Rattle.fault_io.specs.Writing.{Appends}
use Rattle.json_text.specs.Writing.{Writing, written}
use Rattle.piece_print.specs.declared.writing.JsonPieces.{JsonPieces}

-- what is written, with a text before it
unfoldable pub behind : List ℕ → Writing → Writing
behind front w = (front ++ w.0, w.1)

-- the text, and whether a value stands before what comes next
abbrev pub whole : JsonPieces → Writing
whole o = behind o.front (written o.tail)

-- the text that the pieces make together
abbrev pub text_in : JsonPieces → List ℕ
text_in o = (whole o).0

-- Bytes were put to a sink through a buffer: what the buffer held and these bytes are what was written and what it holds now.
pub record Passes (old new : Option (List ℕ)) (held holds bytes : List ℕ) : Type 0 where
  pub passed : List ℕ
  pub appended : Appends old new passed
  pub kept : passed ++ holds ≡ held ++ bytes
