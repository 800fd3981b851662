-- Words that are of the grammar, with what they say, and words that are not. A choice of this project.
use Rattle.std.specs.Prelude.{◌≡◌, ℕ, [], ◌∷◌, Option, Some, None, codes}
use Rattle.command_words.specs.Grammar.{words_of}
use Rattle.command_words.specs.declared.words.Command.{Command}
use Rattle.command_words.specs.declared.words.Command.TheVariants.{Replay, Run, Check, Gen, Extend}
use Rattle.command_words.specs.declared.words.CommandWords.{CommandWords}

-- what a line of these values says
abbrev pub says : Command → ℕ → ℕ → ℕ → Option ℕ → Option CommandWords
says command workers seed calls budget = Some (record {
  command = command;
  options = record { workers = workers; seed = seed; calls = calls; budget = budget };
})

-- lines that are taken, and what they say
pub record TakenExamples : Type 0 where
  pub command_alone : words_of (codes "replay" ∷ []) ≡ says Replay 2 1 200 None
  pub number_apart : words_of (codes "run" ∷ codes "--workers" ∷ codes "4" ∷ []) ≡ says Run 4 1 200 None
  pub number_joined : words_of (codes "run" ∷ codes "--calls=1000" ∷ []) ≡ says Run 2 1 1000 None
  pub option_first : words_of (codes "--seed" ∷ codes "7" ∷ codes "gen" ∷ codes "--budget=0" ∷ []) ≡ says Gen 2 7 200 (Some 0)
  pub leading_zeros : words_of (codes "gen" ∷ codes "--seed=000000009" ∷ []) ≡ says Gen 2 9 200 None
  pub command_after_dashes : words_of (codes "--workers=1" ∷ codes "--" ∷ codes "check" ∷ []) ≡ says Check 1 1 200 None
  pub extend_with_budget : words_of (codes "extend" ∷ codes "--budget=7" ∷ []) ≡ says Extend 2 1 200 (Some 7)
  pub nothing_after_dashes : words_of (codes "check" ∷ codes "--" ∷ []) ≡ says Check 2 1 200 None

-- lines that are answered with the usage
pub record RefusedExamples : Type 0 where
  pub no_word : words_of [] ≡ None
  pub no_command : words_of (codes "--seed=1" ∷ []) ≡ None
  pub no_such_command : words_of (codes "replays" ∷ []) ≡ None
  pub no_longer_command : words_of (codes "extended" ∷ []) ≡ None
  pub second_command : words_of (codes "replay" ∷ codes "replay" ∷ []) ≡ None
  pub option_twice : words_of (codes "run" ∷ codes "--seed=1" ∷ codes "--seed" ∷ codes "1" ∷ []) ≡ None
  pub no_such_option : words_of (codes "run" ∷ codes "--seeds=1" ∷ []) ≡ None
  pub short_option : words_of (codes "run" ∷ codes "-s" ∷ codes "1" ∷ []) ≡ None
  pub help_flag : words_of (codes "run" ∷ codes "--help" ∷ []) ≡ None
  pub no_number : words_of (codes "run" ∷ codes "--seed" ∷ []) ≡ None
  pub empty_number : words_of (codes "run" ∷ codes "--seed=" ∷ []) ≡ None
  pub signed_number : words_of (codes "run" ∷ codes "--seed=+1" ∷ []) ≡ None
  pub ten_digits : words_of (codes "run" ∷ codes "--seed=0000000001" ∷ []) ≡ None
  pub below_range : words_of (codes "run" ∷ codes "--workers=0" ∷ []) ≡ None
  pub above_range : words_of (codes "run" ∷ codes "--calls=1001" ∷ []) ≡ None
  pub option_after_dashes : words_of (codes "run" ∷ codes "--" ∷ codes "--seed=1" ∷ []) ≡ None
  pub two_words_after_dashes : words_of (codes "--" ∷ codes "run" ∷ codes "run" ∷ []) ≡ None
  pub dashes_twice : words_of (codes "--" ∷ codes "--" ∷ codes "run" ∷ []) ≡ None
