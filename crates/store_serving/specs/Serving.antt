-- What is written of what is read: the answers to the lines, one after the other, and the text that ends the history.
-- A choice of this project: the protocol of the store.
use Rattle.std.specs.Prelude.{ℕ, ◌≡◌, ◌⊎◌, List, [], ◌∷◌, ◌++◌, take, Bool, true, false, if◌then◌else◌, Option, Some, None, is_some, bytes_eq, codes, ⊤}
use Rattle.fault_io.specs.declared.ends.ReadError.{ReadError}
use Rattle.fault_io.specs.declared.ends.ReadError.TheVariants as reads
use Rattle.fault_io.specs.Writing.{Appends}
use Rattle.history_read.specs.Grammar.{lines_of}
use Rattle.store_server.specs.Answers.{StepAnswer}
use Rattle.store_server.specs.Serving.{Served, AreAnswered, IsStep, answer_text, served_after}
use Rattle.store_server.specs.Closing.{IsClosing}
use Rattle.store_serving.specs.declared.stops.ServeStop.{ServeStop}
use Rattle.store_serving.specs.declared.stops.ServeStop.TheVariants as stops
use Rattle.store_serving.specs.Lines.{ReadsLine}

-- why serving stops where no line could be read
abbrev pub stop_of : ReadError → ServeStop
stop_of reads.ReadFault = stops.ReadFault
stop_of reads.TooLong = stops.TooLong
stop_of reads.OutOfMemory = stops.OutOfMemory

-- before the first line
abbrev pub unserved : Bool → Served
unserved fenced = record { fenced = fenced; lines = 0; opened = None }

-- the line after which nothing is read
abbrev pub is_end : List ℕ → Bool
is_end line = bytes_eq line (codes "end")

-- the lines before the line end, or all where there is none
abbrev pub before_end : List (List ℕ) → List (List ℕ)
before_end [] = []
before_end (line ∷ lines) = if is_end line then [] else line ∷ before_end lines

-- the texts of answers, one after the other
abbrev pub texts_of : Served → List StepAnswer → List ℕ
texts_of s [] = []
texts_of s (answer ∷ answers) = answer_text s answer ++ texts_of (served_after s answer) answers

-- where the source tells its input: these are its lines before the line end
abbrev pub AreAllLines : Option (List ℕ) → List (List ℕ) → Type 0
AreAllLines None lines = ⊤
AreAllLines (Some input) lines = before_end (lines_of input) ≡ lines

-- where the source tells its input: it begins with these lines
abbrev pub AreFirstLines : Option (List ℕ) → List (List ℕ) → Type 0
AreFirstLines None lines = ⊤
AreFirstLines (Some input) lines = (rest : List (List ℕ)) × (lines_of input ≡ lines ++ rest)

-- a front of these bytes was written, or all of them
pub record WritesPart (old new : Option (List ℕ)) (bytes : List ℕ) : Type 0 where
  pub count : ℕ
  pub appended : Appends old new (take count bytes)

-- all lines were answered in turn, up to the line end or the end of the input, and the text that ends the history was written
pub record ServesAll (fenced begun : Bool) (input old new : Option (List ℕ)) : Type 0 where
  pub lines : List (List ℕ)
  pub answers : List StepAnswer
  pub last : Served
  pub closing : List ℕ
  pub read : AreAllLines input lines
  pub answered : AreAnswered (unserved fenced) lines answers last
  pub closes : IsClosing last.opened closing
  pub written : Appends old new (texts_of (unserved fenced) answers ++ closing)
  -- whether a setup was read
  pub begins : begun ≡ is_some last.opened

-- what was to be written: answers, and behind them the text that ends the history, if it was come to
abbrev pub IsOutput : Bool → List StepAnswer → Served → List ℕ → Type 0
IsOutput fenced answers last text =
    (text ≡ texts_of (unserved fenced) answers)
    ⊎ ((closing : List ℕ) × IsClosing last.opened closing × (text ≡ texts_of (unserved fenced) answers ++ closing))

-- the first lines were answered in turn, and a front of what was to be written was written
pub record ServesFront (fenced : Bool) (input old new : Option (List ℕ)) : Type 0 where
  pub lines : List (List ℕ)
  pub answers : List StepAnswer
  pub last : Served
  pub text : List ℕ
  pub read : AreFirstLines input lines
  pub answered : AreAnswered (unserved fenced) lines answers last
  pub output : IsOutput fenced answers last text
  pub written : WritesPart old new text

-- ---- one line

-- one line was read and answered, and its answer is written
pub record ServesLine (old new : Served) (input left before after : Option (List ℕ)) : Type 0 where
  pub line : List ℕ
  pub text : List ℕ
  pub read : ReadsLine input left (Some line)
  pub goes_on : is_end line ≡ false
  pub step : IsStep old new line text
  pub written : Appends before after text

-- no line is left before the line end, and nothing was done
pub record EndsLines (old new : Served) (input before after : Option (List ℕ)) : Type 0 where
  pub read : AreAllLines input []
  pub same : new ≡ old
  pub unwritten : after ≡ before

-- a line was answered, or there is none any more
abbrev pub ServesNext : Bool → Served → Served → Option (List ℕ) → Option (List ℕ) → Option (List ℕ) → Option (List ℕ) → Type 0
ServesNext true old new input left before after = ServesLine old new input left before after
ServesNext false old new input left before after = EndsLines old new input before after

-- serving stopped in a line: nothing was written of its answer, or a front
pub record CutsLine (old : Served) (input before after : Option (List ℕ)) : Type 0 where
  pub line : List ℕ
  pub text : List ℕ
  pub next : Served
  pub left : Option (List ℕ)
  pub read : ReadsLine input left (Some line)
  pub goes_on : is_end line ≡ false
  pub step : IsStep old next line text
  pub written : WritesPart before after text

-- nothing was written, or a front of the answer to the next line
abbrev pub StopsIn : Served → Option (List ℕ) → Option (List ℕ) → Option (List ℕ) → Type 0
StopsIn old input before after = (after ≡ before) ⊎ CutsLine old input before after
