-- What stands between two lines.
use Rattle.std.specs.Prelude.{ℕ, ◌≡◌, ◌⊎◌, List, [], ◌∷◌, ◌++◌, Bool, false, Option, Some, None, is_some, ⊤}
use Rattle.fault_io.specs.Writing.{Appends}
use Rattle.history_read.specs.Grammar.{lines_of}
use Rattle.store_server.specs.Answers.{StepAnswer}
use Rattle.store_server.specs.Serving.{Served, AreAnswered}
use Rattle.store_server.specs.Closing.{IsClosing}
use Rattle.store_serving.specs.Serving.{WritesPart, is_end, texts_of, unserved}

-- none of the lines is the line end
abbrev pub GoOn : List (List ℕ) → Type 0
GoOn [] = ⊤
GoOn (line ∷ lines) = (is_end line ≡ false) × GoOn lines

-- these lines were read of the input, of which this is left
abbrev pub AreRead : Option (List ℕ) → Option (List ℕ) → List (List ℕ) → Type 0
AreRead None None lines = ⊤
AreRead None (Some left) lines = ⊥
AreRead (Some input) None lines = ⊥
AreRead (Some input) (Some left) lines = lines_of input ≡ lines ++ lines_of left

-- lines were read, and their answers were written
pub record HasServed (fenced : Bool) (input left old new : Option (List ℕ)) (now : Served) : Type 0 where
  pub lines : List (List ℕ)
  pub answers : List StepAnswer
  pub answered : AreAnswered (unserved fenced) lines answers now
  pub go_on : GoOn lines
  pub read : AreRead input left lines
  pub written : Appends old new (texts_of (unserved fenced) answers)

-- the text that ends the history was written
pub record Closes (now : Served) (before after : Option (List ℕ)) (begun : Bool) : Type 0 where
  pub closing : List ℕ
  pub closes : IsClosing now.opened closing
  pub written : Appends before after closing
  pub begins : begun ≡ is_some now.opened

-- a front of it was written
pub record WritesPartOfEnd (now : Served) (before after : Option (List ℕ)) : Type 0 where
  pub closing : List ℕ
  pub closes : IsClosing now.opened closing
  pub written : WritesPart before after closing

-- nothing was written, or a front of the text that ends the history
abbrev pub CutsClosing : Served → Option (List ℕ) → Option (List ℕ) → Type 0
CutsClosing now before after = (after ≡ before) ⊎ WritesPartOfEnd now before after
