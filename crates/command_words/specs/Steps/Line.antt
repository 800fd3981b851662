-- For proofs only: the command that `clap` is given, and what it makes of words.
use Rattle.std.specs.Prelude.{◌≡◌, ⊤, true, List, Some, None, codes, Result, Ok, Err}
use Rattle.clap.specs.Walk.{Rule, Text}
use Rattle.clap.specs.Simple.{App, new_app, new_rule, on_top, with_rule}
use Rattle.clap.specs.Matches.{first_value, found_of}
use Rattle.clap.specs.declared.builder.action.ArgAction.TheVariants.{Set}
use Rattle.clap.specs.declared.parser.matches.ArgMatches.{ArgMatches}
use Rattle.command_words.specs.Grammar.{words_by, words_of}
use Rattle.command_words.specs.declared.words.WordsError.{WordsError}
use Rattle.command_words.specs.declared.words.WordsError.TheVariants.{Usage, OutOfMemory}

-- an option by this name takes one text
abbrev pub option_rule : Text → Rule
option_rule name = record (new_rule name) { long = Some name; action = Some Set }

-- the command is one word that stands apart
abbrev pub command_rule : Rule
command_rule = record (new_rule (codes "command")) { action = Some Set }

-- the program, with no flag of its own
abbrev pub bare_line : App
bare_line = on_top (λ s. record s { no_binary_name = true; disable_help_flag = true; disable_version_flag = true }) (new_app (codes "pvbind"))

-- what the command line takes: the command and the four options
abbrev pub line : App
line = with_rule (with_rule (with_rule (with_rule (with_rule bare_line command_rule) (option_rule (codes "workers"))) (option_rule (codes "seed")))
    (option_rule (codes "calls"))) (option_rule (codes "budget"))

-- the matches have the texts of the parts, or the words are outside the grammar
abbrev pub Matches : List Text → Result ArgMatches WordsError → Type 0
Matches words (Ok m) = words_of words ≡ words_by (first_value (found_of m))
Matches words (Err Usage) = words_of words ≡ None
Matches words (Err OutOfMemory) = ⊤
