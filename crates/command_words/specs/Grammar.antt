-- The grammar of the command line, and what words of it say: one command word, and options `--name N` or
-- `--name=N` in any place. The forms are those of getopt_long and of the crate `clap`; the commands, the names of
-- the options, their ranges and defaults are a choice of this project.
use Rattle.std.specs.Prelude.{
  ⊤,
  ℕ,
  ◌≤◌,
  Bool,
  true,
  not,
  ◌&&◌,
  ◌||◌,
  List,
  [],
  ◌∷◌,
  Option,
  Some,
  None,
  length,
  nat_le,
  ◌≡◌,
  codes,
  bytes_eq,
  if◌then◌else◌,
  find,
  option_map,
  option_and_then,
  unwrap_or,
}
use Rattle.std.specs.List.{list_all, list_any}
use Rattle.std.specs.Char.{is_ascii_digit}
use Rattle.std.specs.Str.Parse.{digits_value}
use Rattle.std.specs.declared.result.Result.{Result}
use Rattle.std.specs.declared.result.Result.TheVariants.{Ok, Err}
use Rattle.clap.specs.Lexer.{long_of}
use Rattle.command_words.specs.declared.words.Command.{Command}
use Rattle.command_words.specs.declared.words.Command.TheVariants.{Replay, Run, Audit, Check, Gen, Extend}
use Rattle.command_words.specs.declared.words.Options.{Options}
use Rattle.command_words.specs.declared.words.CommandWords.{CommandWords}
use Rattle.command_words.specs.declared.words.WordsError.{WordsError}
use Rattle.command_words.specs.declared.words.WordsError.TheVariants.{Usage, OutOfMemory}

-- the bytes of a word
abbrev pub Text : Type 0
Text = List ℕ

-- ---- the parts of a line

-- what is given, `command` or the name of an option, and the text that it gets
abbrev pub Part : Type 0
Part = Text × Text

-- the name is that of one of the four options
abbrev pub is_option : Text → Bool
is_option name = bytes_eq (codes "workers") name || (bytes_eq (codes "seed") name || (bytes_eq (codes "calls") name || bytes_eq (codes "budget") name))

-- one more part before those of the words that follow
abbrev pub with_part : Text → Text → Option (List Part) → Option (List Part)
with_part name text others = option_map (λ parts. (name, text) ∷ parts) others

-- after the word `--` stands the command word or nothing
abbrev pub last_parts : List Text → Option (List Part)
last_parts [] = Some []
last_parts (word ∷ []) = Some ((codes "command", word) ∷ [])
last_parts (word ∷ next ∷ rest) = None

-- `--name=text`, or `--name` whose text is the next word
abbrev pub option_parts : Text → Option Text → Option (List Part) → Option (List Part) → Option (List Part)
option_parts name (Some text) others after_next = with_part name text others
option_parts name None others after_next = after_next

-- a word `--name` or `--name=text` has to name an option; any other is the command word
abbrev pub word_parts : Option (Text × Option Text) → Text → Option (List Part) → (Text → Option (List Part)) → Option (List Part)
word_parts None word others waits = with_part (codes "command") word others
word_parts (Some p) word others waits = if is_option p.0 then option_parts p.0 p.1 others (waits p.0) else None

-- the parts of the words, in order; at `Some name` the first word is the text of the option `name`. `long_of` is the
-- name and the text of a word `--name` or `--name=text`, and none of any other word
abbrev pub parts_from : Option Text → List Text → Option (List Part)
parts_from None [] = Some []
parts_from None (word ∷ rest) =
    if bytes_eq word (codes "--") then last_parts rest
    else word_parts (long_of word) word (parts_from None rest) (λ name. parts_from (Some name) rest)
parts_from (Some name) [] = None
parts_from (Some name) (text ∷ rest) = with_part name text (parts_from None rest)

-- a part of this name is given
abbrev pub has_part : Text → List Part → Bool
has_part name parts = list_any (λ p. bytes_eq name p.0) parts

-- each part is given at most once
abbrev pub each_once : List Part → Bool
each_once [] = true
each_once (p ∷ rest) = not (has_part p.0 rest) && each_once rest

-- the text of the part of this name, if it is given
abbrev pub part_text : List Part → Text → Option Text
part_text parts name = option_map (λ p. p.1) (find (λ p. bytes_eq p.0 name) parts)

-- ---- what the parts say

-- the command of a word
abbrev pub command_named : Text → Option Command
command_named word =
    if bytes_eq word (codes "replay") then Some Replay
    else (if bytes_eq word (codes "run") then Some Run
    else (if bytes_eq word (codes "audit") then Some Audit
    else (if bytes_eq word (codes "check") then Some Check
    else (if bytes_eq word (codes "gen") then Some Gen
    else (if bytes_eq word (codes "extend") then Some Extend else None)))))

-- 1 to 9 decimal digits, of a number from `least` to `most`
abbrev pub is_number : ℕ → ℕ → Text → Bool
is_number least most text =
    list_all is_ascii_digit text && (nat_le 1 (length text) && (nat_le (length text) 9
    && (nat_le least (digits_value 10 text) && nat_le (digits_value 10 text) most)))

-- the number of an option, if it is given; no answer where the text is none
abbrev pub number_between : ℕ → ℕ → Option Text → Option (Option ℕ)
number_between least most None = Some None
number_between least most (Some text) = if is_number least most text then Some (Some (digits_value 10 text)) else None

-- the command and the options, from the text of each
abbrev pub options_by : (Text → Option Text) → Option Options
options_by given =
    option_and_then (λ workers. option_and_then (λ seed. option_and_then (λ calls. option_map (λ budget. record {
      workers = unwrap_or workers 2;
      seed = unwrap_or seed 1;
      calls = unwrap_or calls 200;
      budget = budget;
    })
    (number_between 0 999999999 (given (codes "budget"))))
    (number_between 0 1000 (given (codes "calls"))))
    (number_between 0 999999999 (given (codes "seed"))))
    (number_between 1 4 (given (codes "workers")))

-- the numbers of the options that have a range of their own
abbrev pub AreInRange : Options → Type 0
AreInRange options = (1 ≤ options.workers) × (options.workers ≤ 4) × (options.calls ≤ 1000)

-- the command and the options, from the text of each part that is given
abbrev pub words_by : (Text → Option Text) → Option CommandWords
words_by given = option_and_then (λ command. option_map (λ options. record { command = command; options = options })
    (options_by given)) (option_and_then command_named (given (codes "command")))

-- what the words say, where they are of the grammar
abbrev pub words_of : List Text → Option CommandWords
words_of words = option_and_then (λ parts. if each_once parts then words_by (part_text parts) else None) (parts_from None words)

-- the answer is the one that the grammar gives; want of memory says nothing of the words
abbrev pub Reads : Result CommandWords WordsError → Option CommandWords → Type 0
Reads (Ok words) said = said ≡ Some words
Reads (Err Usage) said = said ≡ None
Reads (Err OutOfMemory) said = ⊤
