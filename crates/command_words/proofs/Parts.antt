-- The parts of a line, as rows that are added one after the other.
use Rattle.std.proofs.Common.{
  ◌≡◌,
  ◌∙◌,
  ◌&&◌,
  ◌||◌,
  ◌⊎◌,
  inl,
  inr,
  ℕ,
  Bool,
  cond,
  codes,
  true,
  false,
  not,
  refl,
  sym,
  ap,
  ap₂,
  subst,
  List,
  [],
  ◌∷◌,
  ◌++◌,
  map,
  Option,
  Some,
  None,
  true≢false,
  option_map,
  append_assoc,
  if◌then◌else◌,
  ◌==◌,
}
use Rattle.std.specs.List.{find, list_all, list_any}
use Rattle.std.specs.Prelude.{option_and_then}
use Rattle.std.specs.Str.{bytes_eq}
use Rattle.std.proofs.lemmas.Slice.Eq.{bytes_eq-Decides}
use Rattle.std.proofs.lemmas.List.Folds.{list_any-append}
use Rattle.std.proofs.lemmas.Bool.{eqb-true}
use Rattle.clap.specs.Walk.{Row, first_of, has_row}
use Rattle.clap.specs.Lexer.{long_of, long_of_rest, short_of, short_of_rest, strip_byte}
use Rattle.clap.specs.declared.builder.value_parser.Reading.TheVariants.{AsWritten}
use Rattle.clap.specs.declared.parser.matches.ValueSource.TheVariants.{CommandLine}
use Rattle.command_words.specs.Grammar.{Part, Text, command_named, each_once, has_part, is_option, number_between, options_by, parts_from, part_text, with_part, words_by, words_of}
use Rattle.command_words.specs.declared.words.Command.{Command}
use Rattle.command_words.specs.declared.words.Options.{Options}
use Rattle.command_words.specs.declared.words.CommandWords.{CommandWords}

abbrev pub row : Part → Row
row p = record {
  id = p.0;
  values = p.1 ∷ [];
  count = None;
  source = Some CommandLine;
  reading = AsWritten;
}

abbrev pub reads : List Row → Option CommandWords
reads rows = words_by (λ id. first_of id rows)

-- no part is given twice, among these and the rows that stand
abbrev pub fits : List Row → List Part → Bool
fits taken parts = each_once parts && list_all (λ p. not (has_row p.0 taken)) parts

abbrev pub adds : List Row → Option (List Part) → Option CommandWords
adds taken None = None
adds taken (Some parts) = cond (fits taken parts) (reads (taken ++ map row parts)) None

pub same_text : (a b : Text) → bytes_eq a b ≡ true → a ≡ b
same_text a b e = (bytes_eq-Decides a b).0 e

pub itself : (a : Text) → bytes_eq a a ≡ true
itself a = (bytes_eq-Decides a a).1 refl

pub one_none : {X : Type 0} (b : Bool) → ◌≡◌ {A = Option X} (cond b None None) None
one_none true = refl
one_none false = refl

-- ---- one more part

pub has_more : (taken : List Row) (p : Part) (id : Text) → has_row id (taken ++ row p ∷ []) ≡ (has_row id taken || (bytes_eq p.0 id || false))
has_more taken p id = list_any-append (λ (r : Row). bytes_eq r.id id) taken (row p ∷ [])

shuffle : (a b h l : Bool) → (not (a || (b || false)) && (not h && l)) ≡ (not (b || h) && (not a && l))
shuffle true true h l = refl
shuffle true false true l = refl
shuffle true false false l = refl
shuffle false true h l = refl
shuffle false false h l = refl

free_more : (taken : List Row) (p : Part) (parts : List Part)
    → list_all (λ q. not (has_row q.0 (taken ++ row p ∷ []))) parts ≡ (not (has_part p.0 parts) && list_all (λ q. not (has_row q.0 taken)) parts)
free_more taken p [] = refl
free_more taken p (q ∷ rest) =
    ap₂ (λ a b. not a && b) (has_more taken p q.0) (free_more taken p rest)
    ∙ shuffle (has_row q.0 taken) (bytes_eq p.0 q.0) (has_part p.0 rest) (list_all (λ s. not (has_row s.0 taken)) rest)

pick : {X : Type 0} (h e r l : Bool) (x : Option X) → cond ((not h && e) && (not r && l)) x None ≡ cond r None (cond (e && (not h && l)) x None)
pick true true true l x = refl
pick true true false l x = refl
pick true false true l x = refl
pick true false false l x = refl
pick false true true l x = refl
pick false true false l x = refl
pick false false true l x = refl
pick false false false l x = refl

pub take_part : (taken : List Row) (name text : Text) (o : Option (List Part)) → adds taken (with_part name text o) ≡ cond (has_row name taken) None (adds (taken ++ row (name, text) ∷ []) o)
take_part taken name text None = sym (one_none (has_row name taken))
take_part taken name text (Some parts) =
    pick (has_part name parts) (each_once parts) (has_row name taken) (list_all (λ q. not (has_row q.0 taken)) parts) (reads (taken ++ row (name, text) ∷ map row parts))
    ∙ ap₂ (λ free rows. cond (has_row name taken) None (cond (each_once parts && free) (reads rows) None)) (sym (free_more taken (name, text) parts))
    (sym (append_assoc taken (row (name, text) ∷ []) (map row parts)))

-- ---- a text that begins with a hyphen is neither a command nor a number

abbrev pub hyphen : Text → Bool
hyphen [] = false
hyphen (x ∷ xs) = x == 45

none_some : {X : Type 0} (x : X) → None ≡ Some x → ⊥
none_some x e = true≢false (sym (ap (λ o. Rattle.std.specs.Option.is_some o) e))

pub hyphen_of_long : (word : Text) (p : Text × Option Text) → long_of word ≡ Some p → hyphen word ≡ true
hyphen_of_long [] p e = absurd (none_some p e)
hyphen_of_long (x ∷ xs) p e = go (x == 45) e
  where
    go : (b : Bool) → option_and_then long_of_rest (option_and_then (strip_byte 45) (cond b (Some xs) None)) ≡ Some p → b ≡ true
    go true h = refl
    go false h = absurd (none_some p h)

pub hyphen_of_short : (word flags : Text) → short_of word ≡ Some flags → hyphen word ≡ true
hyphen_of_short [] p e = absurd (none_some p e)
hyphen_of_short (x ∷ xs) p e = go (x == 45) e
  where
    go : (b : Bool) → option_and_then short_of_rest (cond b (Some xs) None) ≡ Some p → b ≡ true
    go true h = refl
    go false h = absurd (none_some p h)

no_command : (word : Text) → hyphen word ≡ true → command_named word ≡ None
no_command [] e = absurd (true≢false (sym e))
no_command (x ∷ xs) e = subst (λ y. command_named (y ∷ xs) ≡ None) (sym (eqb-true x 45 e)) refl

no_number : (least most : ℕ) (word : Text) → hyphen word ≡ true → number_between least most (Some word) ≡ None
no_number least most [] e = absurd (true≢false (sym e))
no_number least most (x ∷ xs) e = subst (λ y. number_between least most (Some (y ∷ xs)) ≡ None) (sym (eqb-true x 45 e)) refl

pub is_one_of : (name : Text) → is_option name ≡ true
    → (codes "workers" ≡ name) ⊎ ((codes "seed" ≡ name) ⊎ ((codes "calls" ≡ name) ⊎ (codes "budget" ≡ name)))
is_one_of name e = go (bytes_eq (codes "workers") name) (bytes_eq (codes "seed") name) (bytes_eq (codes "calls") name)
    (bytes_eq (codes "budget") name) (same_text _ _) (same_text _ _) (same_text _ _) (same_text _ _) e
  where
    go : (a b c d : Bool) → (a ≡ true → codes "workers" ≡ name) → (b ≡ true → codes "seed" ≡ name) → (c ≡ true → codes "calls" ≡ name) → (d ≡ true → codes "budget" ≡ name)
        → (a || (b || (c || d))) ≡ true → (codes "workers" ≡ name) ⊎ ((codes "seed" ≡ name) ⊎ ((codes "calls" ≡ name) ⊎ (codes "budget" ≡ name)))
    go true b c d f g h k e = inl (f refl)
    go false true c d f g h k e = inr (inl (g refl))
    go false false true d f g h k e = inr (inr (inl (h refl)))
    go false false false d f g h k e = inr (inr (inr (k e)))

-- the options, where the number of one is none
abbrev options_from : Option (Option ℕ) → Option (Option ℕ) → Option (Option ℕ) → Option (Option ℕ) → Option Options
options_from workers seed calls budget =
    option_and_then (λ w. option_and_then (λ s. option_and_then (λ c. option_map (λ b. record {
      workers = Rattle.std.specs.Prelude.unwrap_or w 2;
      seed = Rattle.std.specs.Prelude.unwrap_or s 1;
      calls = Rattle.std.specs.Prelude.unwrap_or c 200;
      budget = b;
    }) budget) calls) seed) workers

no_seed : (w c b : Option (Option ℕ)) → options_from w None c b ≡ None
no_seed None c b = refl
no_seed (Some w) c b = refl

no_calls : (w s b : Option (Option ℕ)) → options_from w s None b ≡ None
no_calls None s b = refl
no_calls (Some w) None b = refl
no_calls (Some w) (Some s) b = refl

no_budget : (w s c : Option (Option ℕ)) → options_from w s c None ≡ None
no_budget None s c = refl
no_budget (Some w) None c = refl
no_budget (Some w) (Some s) None = refl
no_budget (Some w) (Some s) (Some c) = refl

abbrev words_with : Option Command → Option Options → Option CommandWords
words_with command options = option_and_then (λ c. option_map (λ o. record { command = c; options = o }) options) command

no_options : (command : Option Command) → words_with command None ≡ None
no_options None = refl
no_options (Some c) = refl

module _ (given : Text → Option Text) (word : Text) (hyphened : hyphen word ≡ true) where
  no_command_word : given (codes "command") ≡ Some word → words_by given ≡ None
  no_command_word e = ap (λ o. words_with (option_and_then command_named o) (options_by given)) e ∙ ap (λ o. words_with o (options_by given)) (no_command word hyphened)

  abbrev number_of : ℕ → ℕ → Text → Option (Option ℕ)
  number_of least most name = number_between least most (given name)

  without : (o : Option Options) → options_by given ≡ o → o ≡ None → words_by given ≡ None
  without o is none = ap (words_with (option_and_then command_named (given (codes "command")))) (is ∙ none) ∙ no_options (option_and_then command_named (given (codes "command")))

  no_option_word : (name : Text) → is_option name ≡ true → given name ≡ Some word → words_by given ≡ None
  no_option_word name known e = elim (is_one_of name known) [
    | inl h ↦ without _ (ap (λ o. options_from o (number_of 0 999999999 (codes "seed")) (number_of 0 1000 (codes "calls")) (number_of 0 999999999 (codes "budget")))
        (ap (number_between 1 4) (ap given h ∙ e) ∙ no_number 1 4 word hyphened)) refl
    | inr r ↦ elim r [
      | inl h ↦ without _ (ap (λ o. options_from (number_of 1 4 (codes "workers")) o (number_of 0 1000 (codes "calls")) (number_of 0 999999999 (codes "budget")))
          (ap (number_between 0 999999999) (ap given h ∙ e) ∙ no_number 0 999999999 word hyphened))
          (no_seed (number_of 1 4 (codes "workers")) (number_of 0 1000 (codes "calls")) (number_of 0 999999999 (codes "budget")))
      | inr s ↦ elim s [
        | inl h ↦ without _ (ap (λ o. options_from (number_of 1 4 (codes "workers")) (number_of 0 999999999 (codes "seed")) o (number_of 0 999999999 (codes "budget")))
            (ap (number_between 0 1000) (ap given h ∙ e) ∙ no_number 0 1000 word hyphened))
            (no_calls (number_of 1 4 (codes "workers")) (number_of 0 999999999 (codes "seed")) (number_of 0 999999999 (codes "budget")))
        | inr h ↦ without _ (ap (λ o. options_from (number_of 1 4 (codes "workers")) (number_of 0 999999999 (codes "seed")) (number_of 0 1000 (codes "calls")) o)
            (ap (number_between 0 999999999) (ap given h ∙ e) ∙ no_number 0 999999999 word hyphened))
            (no_budget (number_of 1 4 (codes "workers")) (number_of 0 999999999 (codes "seed")) (number_of 0 1000 (codes "calls")))
      ]
    ]
  ]

first_new : (taken : List Row) (p : Part) (more : List Row) → has_row p.0 taken ≡ false → first_of p.0 (taken ++ row p ∷ more) ≡ Some p.1
first_new [] p more none = ap (λ b. option_and_then (λ (r : Row). Rattle.std.specs.Prelude.slice_get r.values 0) (cond b (Some (row p)) (find (λ r. bytes_eq r.id p.0) more))) (itself p.0)
first_new (r ∷ rs) p more none = go (bytes_eq r.id p.0) none (first_new rs p more)
  where
    go : (b : Bool) → (b || has_row p.0 rs) ≡ false → (has_row p.0 rs ≡ false → first_of p.0 (rs ++ row p ∷ more) ≡ Some p.1)
        → option_and_then (λ (s : Row). Rattle.std.specs.Prelude.slice_get s.values 0) (cond b (Some r) (find (λ s. bytes_eq s.id p.0) (rs ++ row p ∷ more))) ≡ Some p.1
    go true e later = absurd (true≢false e)
    go false e later = later e

-- a part that cannot be read leaves nothing to read
bad_part : (taken : List Row) (name text : Text) (o : Option (List Part)) → ((given : Text → Option Text) → given name ≡ Some text → words_by given ≡ None) → adds taken (with_part name text o) ≡ None
bad_part taken name text o bad = take_part taken name text o ∙ go (has_row name taken) refl o
  where
    go : (b : Bool) → has_row name taken ≡ b → (o : Option (List Part)) → cond b None (adds (taken ++ row (name, text) ∷ []) o) ≡ None
    go true e o = refl
    go false e None = refl
    go false e (Some parts) =
        ap (λ x. cond (fits (taken ++ row (name, text) ∷ []) parts) x None)
        (ap reads (append_assoc taken (row (name, text) ∷ []) (map row parts))
        ∙ bad (λ id. first_of id (taken ++ row (name, text) ∷ map row parts)) (first_new taken (name, text) (map row parts) e))
        ∙ one_none (fits (taken ++ row (name, text) ∷ []) parts)

pub bad_command : (taken : List Row) (word : Text) (o : Option (List Part)) → hyphen word ≡ true → adds taken (with_part (codes "command") word o) ≡ None
bad_command taken word o h = bad_part taken (codes "command") word o (λ given e. no_command_word given word h e)

pub bad_number : (taken : List Row) (name word : Text) (o : Option (List Part)) → is_option name ≡ true → hyphen word ≡ true → adds taken (with_part name word o) ≡ None
bad_number taken name word o known h = bad_part taken name word o (λ given e. no_option_word given word h name known e)

-- ---- all parts, from nothing

all_free : (parts : List Part) → list_all (λ p. not (has_row p.0 [])) parts ≡ true
all_free [] = refl
all_free (p ∷ rest) = all_free rest

and_true : (b : Bool) → (b && true) ≡ b
and_true true = refl
and_true false = refl

first_is : (parts : List Part) (id : Text) → first_of id (map row parts) ≡ part_text parts id
first_is [] id = refl
first_is (p ∷ rest) id = go (bytes_eq p.0 id) (first_is rest id)
  where
    go : (b : Bool) → first_of id (map row rest) ≡ part_text rest id
        → option_and_then (λ (r : Row). Rattle.std.specs.Prelude.slice_get r.values 0)
        (cond b (Some (row p)) (find (λ r. bytes_eq r.id id) (map row rest))) ≡ option_map (λ q. q.1) (cond b (Some p) (find (λ q. bytes_eq q.0 id) rest))
    go true later = refl
    go false later = later

from_nothing : (o : Option (List Part)) → adds [] o ≡ option_and_then (λ parts. if each_once parts then words_by (part_text parts) else None) o
from_nothing None = refl
from_nothing (Some parts) =
    ap₂ (λ b (given : Text → Option Text). cond b (words_by given) None) (ap (λ b. each_once parts && b) (all_free parts) ∙ and_true (each_once parts)) (λ i id. first_is parts id i)

pub all_added : (words : List Text) → adds [] (parts_from None words) ≡ words_of words
all_added words = from_nothing (parts_from None words)
