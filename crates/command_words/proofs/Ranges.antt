-- The numbers of options that words give are in their ranges.
use Rattle.std.proofs.Common.{◌≡◌, refl, subst, arith}
use Rattle.std.proofs.lemmas.Bool.Decides.{nat_tests}
use Rattle.std.specs.Prelude.{ℕ, ◌≤◌, Bool, true, false, List, Option, Some, None, length, nat_le, codes, if◌then◌else◌, option_map, option_and_then, unwrap_or}
use Rattle.std.specs.List.{list_all}
use Rattle.std.specs.Char.{is_ascii_digit}
use Rattle.std.specs.Str.Parse.{digits_value}
use Rattle.std.proofs.lemmas.Bool.{and_parts}
use Rattle.command_words.specs.declared.words.Command.{Command}
use Rattle.command_words.specs.declared.words.Options.{Options}
use Rattle.command_words.specs.declared.words.CommandWords.{CommandWords}
use Rattle.command_words.specs.Grammar.{AreInRange, Part, Text, command_named, each_once, is_number, number_between, options_by, parts_from, part_text, words_by, words_of}

le_of : (m n : ℕ) → nat_le m n ≡ true → m ≤ n
le_of m n h = grind (arith, nat_tests)

-- the number of a text
in_range : (least most : ℕ) (text : Text) → is_number least most text ≡ true → (least ≤ digits_value 10 text) × (digits_value 10 text ≤ most)
in_range least most text h =
    let digits = and_parts (list_all is_ascii_digit text) _ h in
    let some = and_parts (nat_le 1 (length text)) _ digits.1 in
    let nine = and_parts (nat_le (length text) 9) _ some.1 in
    let ends = and_parts (nat_le least (digits_value 10 text)) (nat_le (digits_value 10 text) most) nine.1 in
    (le_of least (digits_value 10 text) ends.0, le_of (digits_value 10 text) most ends.1)

given_in_range : (least most : ℕ) (text : Option Text) (n : ℕ) → number_between least most text ≡ Some (Some n) → (least ≤ n) × (n ≤ most)
given_in_range least most None n h = absurd (cc)
given_in_range least most (Some text) n h = by (is_number least most text) refl h
  where
    by : (b : Bool) → is_number least most text ≡ b → (if b then Some (Some (digits_value 10 text)) else None) ≡ Some (Some n) → (least ≤ n) × (n ≤ most)
    by true is h = let same : digits_value 10 text ≡ n = cc in subst (λ m. (least ≤ m) × (m ≤ most)) same (in_range least most text is)
    by false is h = absurd (cc)

-- the number of an option, or its default
or_default : (least most default : ℕ) (text : Option Text) (n : Option ℕ) → number_between least most text ≡ Some n → least ≤ default → default ≤ most
    → (least ≤ unwrap_or n default) × (unwrap_or n default ≤ most)
or_default least most default text None h low high = (low, high)
or_default least most default text (Some n) h low high = given_in_range least most text n h

options_in_range : (given : Text → Option Text) (options : Options) → options_by given ≡ Some options → AreInRange options
options_in_range given options h =
    by (number_between 1 4 (given (codes "workers"))) refl (number_between 0 999999999 (given (codes "seed")))
    (number_between 0 1000 (given (codes "calls"))) refl (number_between 0 999999999 (given (codes "budget"))) h
  where
    by : (w : Option (Option ℕ)) → number_between 1 4 (given (codes "workers")) ≡ w → (s c : Option (Option ℕ)) → number_between 0 1000 (given (codes "calls")) ≡ c → (b : Option (Option ℕ))
        → option_and_then (λ workers. option_and_then (λ seed. option_and_then (λ calls. option_map (λ budget. record {
          workers = unwrap_or workers 2;
          seed = unwrap_or seed 1;
          calls = unwrap_or calls 200;
          budget = budget;
        }) b) c) s) w ≡ Some options → AreInRange options
    by None ew s c ec b h = absurd (cc)
    by (Some w) ew None c ec b h = absurd (cc)
    by (Some w) ew (Some s) None ec b h = absurd (cc)
    by (Some w) ew (Some s) (Some c) ec None h = absurd (cc)
    by (Some w) ew (Some s) (Some c) ec (Some b) h =
        let made : Options = record { workers = unwrap_or w 2; seed = unwrap_or s 1; calls = unwrap_or c 200; budget = b } in
        let same : made ≡ options = cc in
        let workers = or_default 1 4 2 (given (codes "workers")) w ew (omega arith) (omega arith) in
        let calls = or_default 0 1000 200 (given (codes "calls")) c ec (omega arith) (omega arith) in
        subst AreInRange same (workers.0, workers.1, calls.1)

words_by_in_range : (given : Text → Option Text) (said : CommandWords) → words_by given ≡ Some said → AreInRange said.options
words_by_in_range given said h = by (option_and_then command_named (given (codes "command"))) (options_by given) refl h
  where
    by : (c : Option Command) (o : Option Options) → options_by given ≡ o
        → option_and_then (λ command. option_map (λ options. record { command = command; options = options }) o) c ≡ Some said → AreInRange said.options
    by None o eo h = absurd (cc)
    by (Some command) None eo h = absurd (cc)
    by (Some command) (Some options) eo h =
        let made : CommandWords = record { command = command; options = options } in
        let same : made ≡ said = cc in
        subst (λ (w : CommandWords). AreInRange w.options) same (options_in_range given options eo)

pub words_in_range : (words : List Text) (said : CommandWords) → words_of words ≡ Some said → AreInRange said.options
words_in_range words said h = by (parts_from None words) h
  where
    by : (p : Option (List Part)) → option_and_then (λ parts. if each_once parts then words_by (part_text parts) else None) p ≡ Some said → AreInRange said.options
    by None h = absurd (cc)
    by (Some parts) h = when (each_once parts) h
      where
        when : (b : Bool) → (if b then words_by (part_text parts) else None) ≡ Some said → AreInRange said.options
        when true h = words_by_in_range (part_text parts) said h
        when false h = absurd (cc)
